-- Each part stands after the one before it, in the order of the form.
use Rattle.stored.specs.Form.{form_bytes}
use Rattle.lent.proofs.Writing.{puts_then, puts_none}
use Rattle.stored.proofs.Writing.{marks_stored_as}
use Rattle.stored.proofs.storing.form.Goals as goal

pub returns : goal.returns
unfolding form_bytes
returns c =
    let told = c.requires.legal.settings in
    let own = c.requires.legal.own in
    puts_then c.byte.ensures
    (puts_then c.text.ensures.written
    (puts_then c.text-2.ensures.written
    (puts_then c.text-3.ensures.written
    (puts_then c.text-4.ensures.written
    (puts_then c.text-5.ensures.written
    (puts_then c.section.ensures.written
    (puts_then c.seconds.ensures.written
    (puts_then (marks_stored_as _ _ own.marks told.lamps c.section-2.ensures.written)
    (puts_then c.number.ensures.written
    (puts_then c.number-2.ensures.written (puts_then c.class_part.ensures (puts_none _))))))))))))
