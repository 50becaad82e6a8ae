-- Each version is of its own number, and the older two are of Class 1.
use Rattle.std.proofs.Common.{refl, []}
use Rattle.stored.specs.Form.{form_version, marked_version, old_version}
use Rattle.stored.proofs.FormsLoad.{version_over, version_cut}
use Rattle.stored.proofs.theorems.a_form_is_whole.Goals as goal

pub returns : goal.returns
returns c = record {
  cut_short = λ w ok ms. version_cut form_version refl w ok (λ e. absurd (cc)) ms;
  cut_short_marked = λ w ok one ms. version_cut marked_version refl w ok (λ e. one) ms;
  cut_short_old = λ w ok one. version_cut old_version refl w ok (λ e. one) [];
  left_over = λ w ok ms. version_over form_version refl w ok (λ e. absurd (cc)) ms;
  left_over_marked = λ w ok one ms. version_over marked_version refl w ok (λ e. one) ms;
  left_over_old = λ w ok one. version_over old_version refl w ok (λ e. one) [];
}
