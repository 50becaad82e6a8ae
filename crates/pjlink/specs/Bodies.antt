-- The bodies of both classes, a row for each: under which class a body is asked for, what it is called, how it is set,
-- what kind of answer it has and when it is refused all come from its row (RULES, Commands and Class 2; PJLink 1.04,
-- 4.1 to 4.14). INPT and INST are a body of each class, under one name.
--   row_of b           the row of b: its class; its letters; what it sets; the kind of its answer; whether it is
--                      defined only where there are lamps (rule 1); whether it is available, set or query, only when on
--                      (rule 4)
--   bodies, body_rows  every body, those of Class 1 in the order of RULES, then those of Class 2; their rows
--   class_of b         the class of the line that asks for it
--   kind_of b          the kind of its answer
--   is_named k s r      the bytes s name the body of the row r in a line of Class k, in any case of letters
--   is_body k s b      the bytes s name the body b in a line of Class k
--   body_named k s     the body that the bytes s name in a line of Class k, or none
--   has_set b          b sets something (rule 3)
--   has_parameters b   b has a parameter besides `?`: one that it does not know is out of parameter (rules 1 and 2)
--   has_query b        `?` asks b: it has an answer, and names no input
-- Assumes nothing.
use Rattle.std.specs.Prelude.{ℕ, Bool, true, false, ◌&&◌, List, [], ◌∷◌, map, find, Option, ◌==◌, codes}
use Rattle.std.specs.Option.{option_map}
use Rattle.text.specs.Scans.{is_same_by}
use Rattle.words.specs.Bytes.{upper_of}
use Rattle.words.specs.Classes.{class_as_number}
use Rattle.words.specs.declared.class.ClassNumber.{ClassNumber}
use Rattle.words.specs.declared.class.ClassNumber.TheVariants.{One, Two}
use Rattle.pjlink.specs.declared.body.BodyRow.{BodyRow}
use Rattle.pjlink.specs.declared.body.Body.{Body}
use Rattle.pjlink.specs.declared.body.Body.TheVariants.{Powr, Inpt, Avmt, Erst, Lamp, Inst, Name, Inf1, Inf2, Info}
use Rattle.pjlink.specs.declared.body.Body.TheVariants.{Clss, Frez, Svol, Mvol, Snum, Sver, Innm}
use Rattle.pjlink.specs.declared.body.AnswerKind.{AnswerKind}
use Rattle.pjlink.specs.declared.body.AnswerKind.TheVariants as kind
use Rattle.pjlink.specs.declared.body.TextRule.TheVariants as rule
use Rattle.pjlink.specs.declared.body.Sets.{Sets}
use Rattle.pjlink.specs.declared.body.Sets.TheVariants.{SetsPower, SetsInput, SetsMute, SetsFreeze}
use Rattle.pjlink.specs.declared.body.Sets.TheVariants.{StepsSpeaker, StepsMicrophone, NamesInput, QueryOnly}

abbrev row : Body → ClassNumber → List ℕ → Sets → AnswerKind → Bool → Bool → BodyRow
row b k s set answer lamps on =
    record { body = b; class = k; letters = s; set = set; kind = answer; lamps = lamps; on = on }

-- class, letters, what is set, the kind of answer, lamps only, on only
abbrev pub row_of : Body → BodyRow
row_of Powr = row Powr One (codes "POWR") SetsPower kind.Power false false
row_of (Inpt k) = row (Inpt k) k (codes "INPT") SetsInput kind.Input false true
row_of Avmt = row Avmt One (codes "AVMT") SetsMute kind.Mutes false true
row_of Erst = row Erst One (codes "ERST") QueryOnly kind.Errors false false
row_of Lamp = row Lamp One (codes "LAMP") QueryOnly kind.Lamps true false
row_of (Inst k) = row (Inst k) k (codes "INST") QueryOnly kind.Inputs false false
row_of Name = row Name One (codes "NAME") QueryOnly (kind.Text rule.Name) false false
row_of Inf1 = row Inf1 One (codes "INF1") QueryOnly (kind.Text rule.Info) false false
row_of Inf2 = row Inf2 One (codes "INF2") QueryOnly (kind.Text rule.Info) false false
row_of Info = row Info One (codes "INFO") QueryOnly (kind.Text rule.Info) false false
row_of Clss = row Clss One (codes "CLSS") QueryOnly kind.Class false false
row_of Frez = row Frez Two (codes "FREZ") SetsFreeze kind.Freeze false true
row_of Svol = row Svol Two (codes "SVOL") StepsSpeaker kind.Nothing false true
row_of Mvol = row Mvol Two (codes "MVOL") StepsMicrophone kind.Nothing false true
row_of Snum = row Snum Two (codes "SNUM") QueryOnly (kind.Text rule.Info) false false
row_of Sver = row Sver Two (codes "SVER") QueryOnly (kind.Text rule.Info) false false
row_of Innm = row Innm Two (codes "INNM") NamesInput (kind.Text rule.InputName) false false

abbrev pub bodies : List Body
bodies =
    Powr ∷ Inpt One ∷ Avmt ∷ Erst ∷ Lamp ∷ Inst One ∷ Name ∷ Inf1 ∷ Inf2 ∷ Info ∷ Clss
    ∷ Frez ∷ Svol ∷ Mvol ∷ Snum ∷ Sver ∷ Innm ∷ Inpt Two ∷ Inst Two ∷ []

abbrev pub body_rows : List BodyRow
body_rows = map row_of bodies

abbrev pub class_of : Body → ℕ
class_of b = class_as_number (row_of b).class

abbrev pub kind_of : Body → AnswerKind
kind_of b = (row_of b).kind

abbrev pub is_named : ℕ → List ℕ → BodyRow → Bool
is_named k s r = k == class_as_number r.class && is_same_by upper_of s r.letters

abbrev pub is_body : ℕ → List ℕ → Body → Bool
is_body k s b = is_named k s (row_of b)

abbrev pub body_named : ℕ → List ℕ → Option Body
body_named k s = option_map (λ (r : BodyRow). r.body) (find (is_named k s) body_rows)

abbrev pub is_setting : Sets → Bool
is_setting NamesInput = false
is_setting QueryOnly = false
is_setting set = true

abbrev pub has_set : Body → Bool
has_set b = is_setting (row_of b).set

abbrev pub is_knowing : Sets → Bool
is_knowing QueryOnly = false
is_knowing set = true

abbrev pub has_parameters : Body → Bool
has_parameters b = is_knowing (row_of b).set

-- an input's name is asked with the input behind its `?`
abbrev pub is_asked : AnswerKind → Bool
is_asked (kind.Text rule.InputName) = false
is_asked kind.Nothing = false
is_asked answer = true

abbrev pub has_query : Body → Bool
has_query b = is_asked (kind_of b)
