-- Several files of a log, read as one (RULES, The programs: "their bytes one behind the other").
--   join_known a b       the bytes a, and then the bytes b, where both are known
--   joined_bytes f ns    the bytes of the files with the names ns, one behind the other, where f knows those of each
--   files_asked a        the files of the log that a command line asks for: standard input where it names none
--   joined_left f g s ns  what is left of joined files: of the one that is open, and those with the names ns
--   source_left f s      what is left of the file that is open; nothing where none is
-- Assumes nothing.
use Rattle.std.specs.Prelude.{ℕ, List, [], ◌∷◌, map, Some, None, codes}
use Rattle.std.specs.declared.option.Option.{Option}
use Rattle.std.specs.Borrow.{Bor}
use Rattle.std.specs.Io.KnownBytes.{prepend_known}
use Rattle.command.specs.Asked.{AskedFor}

abbrev pub join_known : Option (List ℕ) → Option (List ℕ) → Option (List ℕ)
join_known None b = None
join_known (Some xs) b = prepend_known xs b

abbrev pub joined_bytes : (List ℕ → Option (List ℕ)) → List (List ℕ) → Option (List ℕ)
joined_bytes f [] = Some []
joined_bytes f (n ∷ ns) = join_known (f n) (joined_bytes f ns)

abbrev pub source_left : {S : Type 0} → (S → Option (List ℕ)) → Option S → Option (List ℕ)
source_left f None = Some []
source_left f (Some s) = f s

abbrev pub names_seen : List (Bor (List ℕ)) → List (List ℕ)
names_seen ns = map (λ (b : Bor (List ℕ)). b.now) ns

abbrev pub files_named : List (List ℕ) → List (List ℕ)
files_named [] = codes "-" ∷ []
files_named (n ∷ ns) = n ∷ ns

abbrev pub files_asked : AskedFor → List (List ℕ)
files_asked a = files_named a.logs

abbrev pub joined_left : {S : Type 0} → (S → Option (List ℕ)) → (List ℕ → Option (List ℕ)) → Option S
    → List (Bor (List ℕ)) → Option (List ℕ)
joined_left f g s ns = join_known (source_left f s) (joined_bytes g (names_seen ns))
