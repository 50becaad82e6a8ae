-- INPT: the input that was set is the one that is then answered, and only an input that a line can carry is listed.
-- Assumes nothing.
use Rattle.std.proofs.Common.{◌≡◌, refl, sym, ap, ◌∙◌, true, arith, ltb-true, Ok}
use Rattle.std.proofs.lemmas.Bool.{not-false}
use Rattle.words.specs.Inputs.{is_input}
use Rattle.words.specs.declared.class.ClassNumber.{ClassNumber}
use Rattle.words.specs.declared.input.Input.{Input}
use Rattle.pjlink.specs.declared.body.Body.TheVariants.{Inpt}
use Rattle.pjlink.specs.declared.command.Command.TheVariants.{InputSet, Query}
use Rattle.pjlink.specs.Said.{okay, chosen_is}
use Rattle.record.specs.Updates.{with_chosen}
use Rattle.record.specs.Legal.{is_settings}
use Rattle.record.specs.declared.types.Settings.{Settings}
use Rattle.record.specs.declared.types.Own.{Own}
use Rattle.meaning.specs.SetUpInputs.{no_input, inputs_of, listed_index, is_listed}
use Rattle.meaning.specs.Meaning.{chosen_of, answer_for, after_request}
use Rattle.meaning.proofs.InputsByPlace.{found_at_place}
use Rattle.meaning.proofs.CanBeSaid.{length-inputs_of, is_input-slice_index_or}
use Rattle.meaning.proofs.Cases.{refused_or_passed, meant_passed}
use Rattle.record.proofs.FactsTold.{settings_is}

module _ (s : Settings) (settings : is_settings s ≡ true) (i : Input) where
  pub chosen_is_asked : (o : Own) → is_listed s i ≡ true → chosen_of s (with_chosen o (listed_index s i)) ≡ i
  chosen_is_asked o listed = grind (arith, ltb-true, found_at_place, length-inputs_of, settings_is)

  -- an input that is listed is one that two characters can name
  pub listed_is_input : is_listed s i ≡ true → is_input i ≡ true
  listed_is_input listed =
      let told = (settings_is s).0 settings in
      let below = ltb-true (listed_index s i) s.input_count listed in
      ap is_input (sym (found_at_place i no_input (inputs_of s) (omega (arith, length-inputs_of s told))))
      ∙ is_input-slice_index_or s told (listed_index s i) below

  -- INPT with the input, answered OK, and then INPT ?, each under either class
  pub set_then_asked : (o : Own) (j k : ClassNumber) → answer_for s o (Ok (InputSet j i)) ≡ okay
      → answer_for s (after_request s o (Ok (InputSet j i))) (Ok (Query (Inpt k))) ≡ chosen_is i
  set_then_asked o j k =
      refused_or_passed s o (Ok (InputSet j i)) (λ m n. m ≡ okay → answer_for s n (Ok (Query (Inpt k))) ≡ chosen_is i)
      (λ n e. cc)
      (λ p e.
      meant_passed s (with_chosen o (listed_index s i)) (Ok (Query (Inpt k)))
      (record { defined = refl; listed = refl; sound = p.sound; timely = p.timely })
      ∙ (λ j. chosen_is (chosen_is_asked o (not-false (is_listed s i) p.listed) j)))
