use Rattle.std.proofs.Common.{◌≡◌, ◌++◌, ◌∷◌, drop}
use Rattle.std.specs.List.{flat_map}
use Prim.Native.Char.{code}
use Rattle.words.specs.Joined.{list_text}
use Rattle.words.proofs.list.put_list.Given as goal

abbrev pub invariant-loop-x : goal.invariant-loop-x
invariant-loop-x g l =
    l.out.items ++ flat_map (λ y. code " " ∷ g.T.Wire.text y) (drop l.x-index l.rest)
    ≡ l.fn.out.items ++ list_text g.T.Wire.text l.fn.items
