-- What is read of joined files, by what is read of the one that is open.
-- Assumes nothing.
use Rattle.std.proofs.Common.{ℕ, sym, ap, ◌∙◌, List, [], ◌++◌, append_assoc}
use Rattle.std.proofs.Common.{None, Some}
use Rattle.std.specs.declared.option.Option.{Option}
use Rattle.std.specs.Io.KnownBytes.{Keeps, Consumes}
use Rattle.program.specs.Joined.{join_known}

pub join_consumes : (a b c : Option (List ℕ)) (bs : List ℕ) → Consumes a b bs
    → Consumes (join_known a c) (join_known b c) bs
join_consumes None b c bs h = tt
join_consumes (Some xs) None c bs h = absurd h
join_consumes (Some xs) (Some ys) None bs h = tt
join_consumes (Some xs) (Some ys) (Some zs) bs h = ap (λ (l : List ℕ). l ++ zs) h ∙ append_assoc bs ys zs

pub join_keeps : (a b c : Option (List ℕ)) → Keeps a b → Keeps (join_known a c) (join_known b c)
join_keeps None b c h = tt
join_keeps (Some xs) None c h = absurd h
join_keeps (Some xs) (Some ys) None h = tt
join_keeps (Some xs) (Some ys) (Some zs) h = ap (λ (l : List ℕ). l ++ zs) h

pub keeps_then : (a b c : Option (List ℕ)) (bs : List ℕ) → Keeps a b → Consumes b c bs → Consumes a c bs
keeps_then None b c bs h g = tt
keeps_then (Some xs) None c bs h g = absurd h
keeps_then (Some xs) (Some ys) None bs h g = absurd g
keeps_then (Some xs) (Some ys) (Some zs) bs h g = sym h ∙ g

pub keeps_both : (a b c : Option (List ℕ)) → Keeps a b → Keeps b c → Keeps a c
keeps_both None b c h g = tt
keeps_both (Some xs) None c h g = absurd h
keeps_both (Some xs) (Some ys) None h g = absurd g
keeps_both (Some xs) (Some ys) (Some zs) h g = g ∙ h

pub consumes_none : (a b : Option (List ℕ)) → Consumes a b [] → Keeps a b
consumes_none None b h = tt
consumes_none (Some xs) None h = absurd h
consumes_none (Some xs) (Some ys) h = sym h

pub ruleset joined_reads = (join_consumes, join_keeps, keeps_then, keeps_both, consumes_none)
