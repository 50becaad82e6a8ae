-- What a command to a projector says is the length of its line; refused, there is none.
-- Assumes nothing.
use Rattle.std.proofs.Common.{ℕ, ◌≡◌, refl, length}
use Rattle.text.specs.Outcomes.{answer_number, with_length}
use Rattle.codes.specs.declared.command.Coded.{Coded}
use Rattle.panel.specs.PanelCalls.{command_at}
use Rattle.panel.specs.declared.types.Panel.{Panel}
use Rattle.panel.proofs.Cases.{commanded_by}

pub length_sent : (p : Panel) (i : ℕ) (k : Coded) (room : ℕ)
    → let c = command_at p i k room in answer_number (λ n. n) (with_length c) ≡ length c.bytes
length_sent p i k room =
    commanded_by p i k room (λ c. answer_number (λ n. n) (with_length c) ≡ length c.bytes) (λ e some. refl)
    (λ can. refl)
