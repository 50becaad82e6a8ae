-- The form as its grammar has it (RULES, Stored form, Lamps and Class 2), of each version: what is written of settings
-- is the form of what it says, read so whatever follows, and cut short where it is cut; and what is read of bytes has
-- them as its form.
--   bytes_of v n ms         the bytes of the marks ms of n lamps: the oldest version, which has none, says that each is
--                           set
--   ReadAs s f rest         what bytes tell that were read: their form, and what the older versions lack
-- Assumes nothing.
use Rattle.std.proofs.Common.{ℕ, ◌/◌, ◌^◌, ◌<◌, ◌≤◌, ◌≡◌, Bool, true, false, not, ◌==◌, if◌then◌else◌, List}
use Rattle.std.proofs.Common.{[], ◌∷◌, ◌++◌, length, map, replicate, Some, refl, sym, ap, subst, ◌∙◌, arith, leb-true}
use Rattle.text.proofs.Choices.{if_yes, if_no, both_right}
use Rattle.words.specs.Bytes.{◌at◌}
use Rattle.record.specs.Limits.{transition_most}
use Rattle.record.specs.Wanted.{Wanted, wanted_of}
use Rattle.record.specs.Rules.{is_transition}
use Rattle.record.specs.SetUp.{is_setting_in_range, is_set_up}
use Rattle.record.specs.declared.types.Setting.{Setting}
use Rattle.record.specs.declared.types.Setting.TheVariants.{Inputs, Lamps, WarmUp, Cooling, Serial, Version, Names}
use Rattle.record.proofs.Rules.{lamps_within, text_most, names_many}
use Rattle.record.proofs.OutOfRange.{each_in_range}
use Rattle.record.proofs.Started.{inputs_halved}
use Rattle.text.specs.Flags.{flag_of}
use Rattle.stored.specs.Sections.{given, byte, number, section_of, text, texts, texts_bytes}
use Rattle.stored.specs.Sections.{lamps_seconds}
use Rattle.stored.specs.Form.{form_version, old_version, FormSaid, parts_written, parts_read}
use Rattle.stored.specs.Form.{parts_in_class_2, marks_alone, parts_after_marks}
use Rattle.stored.specs.Form.{parts_with_class, marks_part, class_part, settings_marked, form_bytes, form, version_form}
use Rattle.stored.proofs.Fields.{if_form, IsForm, given_form, form_then, form_as, byte_form, section_form, text_form}
use Rattle.stored.proofs.Fields.{number_form, texts_form, lamps_form, Begins, begins_none, begins_then, byte_begins}
use Rattle.stored.proofs.Fields.{text_begins, inputs_begin, lamps_begin, number_begins, texts_begin, reading}
use Rattle.stored.proofs.Fields.{reading_part, ended}

-- ---- written

abbrev pub bytes_of : ℕ → ℕ → List Bool → List ℕ
bytes_of v n ms = if v == old_version then replicate n 1 else map flag_of ms

not_true : (b : Bool) → not b ≡ true → b ≡ false
not_true b h = grind arith

not_false : (b : Bool) → not b ≡ false → b ≡ true
not_false b h = grind arith

-- where it has none, each stands already
marks_form : (v n : ℕ) (y : FormSaid) (w : Wanted) (ms : List Bool) → y.marks ≡ replicate n 1
    → IsForm ((marks_part v).read y) (record y { marks = bytes_of v n ms })
    ((marks_part v).written (settings_marked w ms))
marks_form v n y w ms each =
    if_form (not (v == old_version))
    (λ has.
    form_then
    (form_as (text_form (map flag_of ms)) _
    (λ j. record y { marks = sym (if_no (replicate n 1) (map flag_of ms) (not_true _ has)) j })) _ (given_form _))
    (λ none.
    subst (λ (m : List ℕ). IsForm {A = FormSaid} (given y) (record y { marks = m }) [])
    (each ∙ sym (if_yes (replicate n 1) (map flag_of ms) (not_false _ none))) (given_form y))

pub nothing : {A : Type 0} (s : List A) → length s ≤ 0 → s ≡ []
nothing [] l = refl
nothing (x ∷ s) l = absurd (omega arith)

module _ (w : Wanted) (ok : is_set_up w ≡ true) (m : List ℕ) where
  met : (s : Setting) → is_setting_in_range w s ≡ true
  met = each_in_range w ok

  -- before the class is said, and after it
  abbrev unclassed : FormSaid
  unclassed = record { settings = record w { class = 1; serial = []; version = []; names = [] }; marks = m }

  abbrev classed : FormSaid
  classed = record { settings = w; marks = m }

  -- no other class has anything more
  is_alone : (w.class == 2) ≡ false → record w { serial = []; version = []; names = [] } ≡ w
  is_alone e =
      let serial : w.serial ≡ [] = grind (arith, e, nothing w.serial, text_most w.serial _ (met Serial)) in
      let version : w.version ≡ [] = grind (arith, e, nothing w.version, text_most w.version _ (met Version)) in
      let names : w.names ≡ [] = grind (arith, e, nothing w.names, names_many _ w.names (met Names)) in
      (λ j. record w { serial = sym serial j; version = sym version j; names = sym names j })

  with_class_form : IsForm (parts_read parts_with_class unclassed) classed (parts_written parts_with_class classed)
  with_class_form =
      form_then (form_as (byte_form w.class) _ refl) _
      (form_then
      (if_form (w.class == 2)
      (λ two.
      let many : length w.names ≡ length w.inputs / 2 = grind (arith, two, names_many _ w.names (met Names)) in
      let names = subst (λ (k : ℕ). IsForm (texts k) w.names (texts_bytes w.names)) many (texts_form w.names) in
      form_then (form_as (text_form w.serial) _ refl) _
      (form_then (form_as (text_form w.version) _ refl) _
      (form_then (form_as names _ refl) _ (given_form classed))))
      (λ other.
      subst
      (λ (u : Wanted). IsForm {A = FormSaid}
      (given (record { settings = record w { serial = []; version = []; names = [] }; marks = m }))
      (record { settings = u; marks = m }) []) (is_alone other) (given_form _))) _
      (given_form classed))

  class_form : (v : ℕ) → ((v == form_version) ≡ false → w.class ≡ 1)
      → IsForm ((class_part v).read unclassed) classed ((class_part v).written classed)
  class_form v older =
      if_form (v == form_version) (λ newest. with_class_form)
      (λ no.
      let one = older no in
      subst (λ (u : Wanted). IsForm {A = FormSaid} (given unclassed) (record { settings = u; marks = m }) [])
      ((λ j. record w { class = sym one j; serial = []; version = []; names = [] })
      ∙ is_alone (grind (arith, one))) (given_form unclassed))

stretch_fits : (n : ℕ) → is_transition n ≡ true → n < 256 ^ 2
stretch_fits n h = omega (arith, leb-true n transition_most (both_right _ _ h))

module _ (v : ℕ) (w : Wanted) (ok : is_set_up w ≡ true) (older : (v == form_version) ≡ false → w.class ≡ 1)
    (ms : List Bool) where
  -- what the form says
  abbrev pub says : FormSaid
  says = record { settings = w; marks = bytes_of v (length w.lamps) ms }

  pub form_written : IsForm form says (version_form v w ms)
  unfolding form form_bytes
  form_written =
      let halves = sym (inputs_halved _ w.inputs (each_in_range w ok Inputs)) in
      form_then (byte_form v) _
      (form_then (form_as (text_form w.name) _ refl) _
      (form_then (form_as (text_form w.maker) _ refl) _
      (form_then (form_as (text_form w.model) _ refl) _
      (form_then (form_as (text_form w.other) _ refl) _
      (form_then (form_as (text_form w.password) _ refl) _
      (form_then (form_as (section_form 2 (length w.inputs / 2) w.inputs halves) _ refl) _
      (form_then (form_as (lamps_form w.lamps (lamps_within w.lamps (each_in_range w ok Lamps))) _ refl) _
      (form_then (marks_form v (length w.lamps) _ w ms refl) _
      (form_then (form_as (number_form 2 w.warm (stretch_fits w.warm (each_in_range w ok WarmUp))) _ refl) _
      (form_then (form_as (number_form 2 w.cool (stretch_fits w.cool (each_in_range w ok Cooling))) _ refl) _
      (form_then (class_form w ok says.marks v older) _ (given_form says))))))))))))

-- ---- read

-- the marks, where the version has them
record MarksRead (has : Bool) (y : FormSaid) (s : List ℕ) (z : FormSaid) (rest : List ℕ) : Type 0 where
  pub kept : z ≡ record y { marks = z.marks }
  pub begins : Begins s (if has then parts_written marks_alone z else []) rest
  pub none : has ≡ false → z.marks ≡ y.marks

marks_read : (has : Bool) (y : FormSaid) {s : List ℕ} {z : FormSaid} {rest : List ℕ}
    → (if has then parts_read marks_alone y else given y) s ≡ Some (z, rest) → MarksRead has y s z rest
marks_read true y {s} e =
    reading_part text _ e
    (λ m s1 r1 e1.
    ended (λ z rest. MarksRead true y s z rest) e1
    (record { kept = refl; begins = begins_then (text_begins r1) (begins_none s1); none = λ h. absurd (cc) }))
marks_read false y {s} e =
    ended (λ z rest. MarksRead false y s z rest) e
    (record { kept = refl; begins = begins_none s; none = λ h. refl })

-- what Class 2 alone has
record InClass2 (two : Bool) (y : FormSaid) (s : List ℕ) (z : FormSaid) (rest : List ℕ) : Type 0 where
  pub kept : z
      ≡ record y {
        settings = record y.settings {
          serial = z.settings.serial;
          version = z.settings.version;
          names = z.settings.names;
        };
      }
  pub begins : Begins s (if two then parts_written parts_in_class_2 z else []) rest

class_2_read : (two : Bool) (y : FormSaid) {s : List ℕ} {z : FormSaid} {rest : List ℕ}
    → (if two then parts_read parts_in_class_2 y else given y) s ≡ Some (z, rest) → InClass2 two y s z rest
class_2_read true y {s} e =
    let n = length y.settings.inputs / 2 in
    reading_part text _ e
    (λ serial s1 r1 e1. reading_part text _ e1
    (λ version s2 r2 e2. reading_part (texts n) _ e2
    (λ names s3 r3 e3.
    ended (λ z rest. InClass2 true y s z rest) e3
    (record {
      kept = refl;
      begins =
          begins_then (text_begins r1)
          (begins_then (text_begins r2) (begins_then (texts_begin n r3) (begins_none s3)));
    }))))
class_2_read false y {s} e =
    ended (λ z rest. InClass2 false y s z rest) e (record { kept = refl; begins = begins_none s })

-- the class, where the version has one
record ClassRead (has : Bool) (y : FormSaid) (s : List ℕ) (z : FormSaid) (rest : List ℕ) : Type 0 where
  pub kept : z
      ≡ record y {
        settings = record y.settings {
          class = z.settings.class;
          serial = z.settings.serial;
          version = z.settings.version;
          names = z.settings.names;
        };
      }
  pub begins : Begins s (if has then parts_written parts_with_class z else []) rest
  pub none : has ≡ false → z.settings.class ≡ y.settings.class

class_read : (has : Bool) (y : FormSaid) {s : List ℕ} {z : FormSaid} {rest : List ℕ}
    → (if has then parts_read parts_with_class y else given y) s ≡ Some (z, rest) → ClassRead has y s z rest
class_read true y {s} e =
    reading_part byte _ e
    (λ k s1 r1 e1.
    let y1 : FormSaid = record y { settings = record y.settings { class = k } } in
    reading (if k == 2 then parts_read parts_in_class_2 y1 else given y1) e1
    (λ z s2 r2 e2.
    let two = class_2_read (k == 2) y1 r2 in
    let class : k ≡ z.settings.class = sym (ap (λ (x : FormSaid). x.settings.class) two.kept) in
    ended (λ z rest. ClassRead true y s z rest) e2
    (record {
      kept = two.kept
          ∙ (λ j. record y {
            settings = record y.settings {
              class = class j;
              serial = z.settings.serial;
              version = z.settings.version;
              names = z.settings.names;
            };
          });
      begins =
          subst
          (λ (n : ℕ). Begins s ((n ∷ []) ++ ((if n == 2 then parts_written parts_in_class_2 z else []) ++ [])) s2)
          class (begins_then (byte_begins r1) (begins_then two.begins (begins_none s2)));
      none = λ h. absurd (cc);
    })))
class_read false y {s} e =
    ended (λ z rest. ClassRead false y s z rest) e
    (record { kept = refl; begins = begins_none s; none = λ h. refl })

pub record ReadAs (s : List ℕ) (f : FormSaid) (rest : List ℕ) : Type 0 where
  pub formed : Begins s (form_bytes (s at 0) f) rest
  pub class : ((s at 0) == form_version) ≡ false → f.settings.class ≡ 1
  pub marks : ((s at 0) == old_version) ≡ true → f.marks ≡ replicate (length f.settings.lamps) 1

pub form_read : (s : List ℕ) {f : FormSaid} {rest : List ℕ} → form s ≡ Some (f, rest) → ReadAs s f rest
unfolding form form_bytes byte
form_read [] e = absurd (cc)
form_read (v ∷ s) {f} {rest} e =
    reading_part text _ e
    (λ name s1 r1 e1. reading_part text _ e1
    (λ maker s2 r2 e2. reading_part text _ e2
    (λ model s3 r3 e3. reading_part text _ e3
    (λ other s4 r4 e4. reading_part text _ e4
    (λ password s5 r5 e5. reading_part (section_of 2) _ e5
    (λ inputs s6 r6 e6. reading_part lamps_seconds.read _ e6
    (λ lamps s7 r7 e7.
    let before : FormSaid = record {
      settings = wanted_of name maker model other password inputs lamps 0 0;
      marks = replicate (length lamps) 1;
    } in
    reading ((marks_part v).read before) e7
    (λ y s8 r8 e8.
    let marks = marks_read (not (v == old_version)) before r8 in
    let marked : FormSaid = record before { marks = y.marks } in
    reading_part (number 2) _
    (subst (λ (x : FormSaid). parts_read (parts_after_marks v) x s8 ≡ Some (f, rest)) marks.kept e8)
    (λ warm s9 r9 e9. reading_part (number 2) _ e9
    (λ cool s10 r10 e10.
    let timed : FormSaid = record marked { settings = record marked.settings { warm = warm; cool = cool } } in
    reading ((class_part v).read timed) e10
    (λ z s11 r11 e11.
    let class = class_read (v == form_version) timed r11 in
    ended (λ f rest. ReadAs (v ∷ s) f rest) e11
    (subst (λ (f : FormSaid). ReadAs (v ∷ s) f s11) (sym class.kept)
    (record {
      formed =
          begins_then {a = v ∷ []} (record { joined = λ b. refl })
          (begins_then (text_begins r1)
          (begins_then (text_begins r2)
          (begins_then (text_begins r3)
          (begins_then (text_begins r4)
          (begins_then (text_begins r5)
          (begins_then (inputs_begin r6)
          (begins_then (lamps_begin r7)
          (begins_then marks.begins
          (begins_then (number_begins 2 r9)
          (begins_then (number_begins 2 r10)
          (begins_then class.begins (begins_none s11))))))))))));
      class = class.none;
      marks = λ h. marks.none (ap not h);
    })))))))))))))
