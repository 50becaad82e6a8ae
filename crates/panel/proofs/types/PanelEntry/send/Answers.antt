-- The line is that of the command, which can be written.
use Rattle.std.proofs.Common.{arith}
use Rattle.text.proofs.Parts.{first_part}
use Rattle.panel.proofs.LinesSent.{sent_whole, password_writable}
use Rattle.panel.proofs.types.PanelEntry.send.Goals as goal

pub put_command-length-requires-clause-writable : goal.put_command-length-requires-clause-writable
put_command-length-requires-clause-writable c =
    let p = c.args.self.now.password in
    password_writable c.args.self.now c.args.command c.if-secured.leads _ c.requires.legal c.requires.writable
    (first_part p.bytes p.len)

pub returns-clause-length : goal.returns-clause-length
returns-clause-length c = grind (arith, sent_whole, c.put_command-length.ensures.length, c.if-secured.branch)

pub returns-clause-line : goal.returns-clause-line
returns-clause-line c = grind (arith, sent_whole, c.put_command-length.ensures.written, c.if-secured.branch)
