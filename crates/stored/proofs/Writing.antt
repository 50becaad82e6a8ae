-- Of what is written item by item (RULES, Stored form): one more, and none.
-- Assumes nothing.
use Rattle.std.proofs.Common.{ℕ, ◌+◌, ◌<◌, ◌≡◌, List, [], ◌++◌, length, map, take}
use Rattle.std.proofs.Common.{slice_index_or, true, refl, sym, subst, arith, ◌≤◌, append-nil, length-take-le}
use Rattle.std.proofs.lemmas.Grind.{common_steps}
use Rattle.std.proofs.lemmas.List.{take-map}
use Rattle.std.proofs.Math.ListN.{get_or-map}
use Rattle.text.proofs.InTurn.{each_in_turn-take}
use Rattle.text.specs.Flags.{is_raised, flag_of}
use Rattle.record.specs.Limits.{lamps_most}
use Rattle.record.specs.Rules.{is_marks}
use Rattle.record.proofs.MarksTold.{marks_long}
use Rattle.record.specs.declared.types.InputName.{InputName}
use Rattle.lent.specs.declared.MemoryWriter.{MemoryWriter}
use Rattle.lent.specs.Puts.{Puts}
use Rattle.numbers.specs.HighestFirst.{highest_first}
use Rattle.stored.specs.Sections.{section, text_section, texts_bytes, seconds_bytes}
use Rattle.stored.specs.Form.{name_stored}
use Rattle.stored.proofs.Marks.{front_again}

-- one more
pub texts_bytes-take : (ns : List InputName) (i : ℕ) (d : InputName) → i < length ns
    → texts_bytes (map name_stored (take (i + 1) ns))
    ≡ texts_bytes (map name_stored (take i ns)) ++ text_section (name_stored (slice_index_or ns i d))
unfolding texts_bytes
texts_bytes-take ns i d h = grind (arith, common_steps, take-map, each_in_turn-take, get_or-map)

pub seconds_bytes-take : (xs : List ℕ) (i : ℕ) → i < length xs
    → seconds_bytes (take (i + 1) xs) ≡ seconds_bytes (take i xs) ++ highest_first 4 (slice_index_or xs i 0)
unfolding seconds_bytes
seconds_bytes-take xs i h = each_in_turn-take (highest_first 4) xs i 0 h

-- the marks of the lamps that there are, as a legal record keeps them
pub marks_stored_as : {a b : MemoryWriter} (n : ℕ) (fs : List ℕ) → is_marks n fs ≡ true → n ≤ lamps_most
    → Puts a b (section n (take n fs)) → Puts a b (text_section (map flag_of (take n (map is_raised fs))) ++ [])
marks_stored_as {a} {b} n fs legal few h =
    subst (λ (s : List ℕ). Puts a b s)
    (sym (grind (arith, append-nil, front_again n fs legal few, length-take-le n fs, marks_long n fs legal))) h

pub no_texts : texts_bytes [] ≡ []
unfolding texts_bytes
no_texts = refl

pub no_seconds : seconds_bytes [] ≡ []
unfolding seconds_bytes
no_seconds = refl
