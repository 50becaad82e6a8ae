-- What is written by a combination of values is read back, and nothing else is read: one law for each combination. They
-- are in specs/ since the laws of a trait's values (Laws) rest on them, and are named from there.
-- Assumes nothing.
use Rattle.std.proofs.Common.{ℕ, zero, suc, ◌≡◌, ◌≤◌, ◌⊎◌, inl, inr, Bool, true, false, List, [], ◌∷◌, ◌++◌}
use Rattle.std.proofs.Common.{refl, sym, ap, ◌∙◌, subst, arith, length, map}
use Rattle.std.specs.List.{list_all}
use Rattle.std.specs.Prelude.{Option, Some, None, ◌&&◌, if◌then◌else◌, ◌==◌, nat_le}
use Rattle.std.specs.Option.{option_or}
use Rattle.std.proofs.lemmas.Bool.{eqb-true, eq-eqb, leb-true, le-leb}
use Rattle.std.proofs.lemmas.Bool.Decides.{nat_tests}
use Rattle.std.proofs.lemmas.List.{append-nil}
use Rattle.std.proofs.lemmas.Option.{same_Some, some_pair_parts}
use Prim.Native.Char.{Char, code}
use Rattle.text.specs.Words.{◌is◌}
use Rattle.text.proofs.Choices.{if_yes, both, both_left, both_right}
use Rattle.words.specs.Codec.{Codec, WholeCodec, Plain, Ends, first_named, letter, strip_prefix, first_spelled}
use Rattle.words.specs.Codec.{preceded_by, pair_of, values_in, whole_value, value_at_end, ◌>>=◌}
use Rattle.words.specs.Joined.{list_text, JoinedBy, list_behind, list_read, is_list, WritesList}

pub bind_some : {A B : Type 0} (o : Option A) (f : A → Option B) {y : B} → (o >>= f) ≡ Some y
    → (x : A) × (o ≡ Some x) × (f x ≡ Some y)
bind_some None f e = cc
bind_some (Some x) f e = (x, refl, e)

pub cond_is : {A : Type 0} (t : Bool) (o : Option A) {y : A} → (if t then o else None) ≡ Some y
    → (t ≡ true) × (o ≡ Some y)
cond_is true o e = (refl, e)
cond_is false o e = cc

-- values of one byte
module _
    {A : Type 0}
    (legal : A → Bool)
    (of : A → ℕ)
    (f : ℕ → Option A)
    (each : (x : A) → legal x ≡ true → f (of x) ≡ Some x)
    (only : (b : ℕ) (x : A) → f b ≡ Some x → (legal x ≡ true) × (b ≡ of x))
  where
    letter_back : (x : A) (t rest : List ℕ) → Plain legal (λ x. of x ∷ []) x t → letter f (t ++ rest) ≡ Some (x, rest)
    letter_back x t rest w =
        ap (λ s. letter f (s ++ rest)) w.1 ∙ ap (λ o. o >>= λ y. Some (y, rest)) (each x w.0)

    letter_sound : (s : List ℕ) (x : A) (rest : List ℕ) → letter f s ≡ Some (x, rest)
        → (t : List ℕ) × Plain legal (λ x. of x ∷ []) x t × (s ≡ t ++ rest)
    letter_sound [] x rest e = cc
    letter_sound (b ∷ s) x rest e =
        let (y, n, p) = bind_some (f b) (λ y. Some (y, s)) e in
        let q = some_pair_parts y x s rest p in
        let o = only b x (n ∙ ap Some q.0) in
        (of x ∷ [], (o.0, refl), cc)

    pub letter_codec : {E : List ℕ → Type 0} → Codec E legal (λ x. of x ∷ []) (Plain legal (λ x. of x ∷ [])) (letter f)
    letter_codec = record {
      own = λ x h. (h, refl);
      told = λ x t w. w.0;
      back = λ x t rest w h. letter_back x t rest w;
      sound = letter_sound;
    }

    -- n of them
    abbrev counted_next : ℕ → Option (A × List ℕ) → Option (List A × List ℕ)
    counted_next n o = o >>= λ r. values_in n (letter f) r.1 >>= λ q. Some (r.0 ∷ q.0, q.1)

    counted_back : (xs : List A) (rest : List ℕ) → list_all legal xs ≡ true
        → values_in (length xs) (letter f) (map of xs ++ rest) ≡ Some (xs, rest)
    counted_back [] rest h = refl
    counted_back (x ∷ xs) rest h =
        ap (λ o. counted_next (length xs) (o >>= λ y. Some (y, map of xs ++ rest)))
        (each x (both_left (legal x) (list_all legal xs) h))
        ∙ ap (λ o. o >>= λ q. Some (x ∷ q.0, q.1)) (counted_back xs rest (both_right (legal x) (list_all legal xs) h))

    counted_sound : (n : ℕ) (s : List ℕ) (xs : List A) (rest : List ℕ)
        → values_in n (letter f) s ≡ Some (xs, rest)
        → (length xs ≡ n) × (list_all legal xs ≡ true) × (s ≡ map of xs ++ rest)
    counted_sound zero s xs rest e =
        let q = some_pair_parts [] xs s rest e in
        (sym (ap length q.0), sym (ap (list_all legal) q.0), q.1 ∙ ap (λ xs. map of xs ++ rest) q.0)
    counted_sound (suc n) s xs rest e =
        let (r, p, m) = bind_some (letter f s) (λ r. values_in n (letter f) r.1 >>= λ q. Some (r.0 ∷ q.0, q.1)) e in
        let (q, l, k) = bind_some (values_in n (letter f) r.1) (λ q. Some (r.0 ∷ q.0, q.1)) m in
        let (t, w, g) = letter_sound s r.0 r.1 p in
        let i = counted_sound n r.1 q.0 q.1 l in
        let j = some_pair_parts (r.0 ∷ q.0) xs q.1 rest k in (
          sym (ap length j.0) ∙ ap suc i.0,
          sym (ap (list_all legal) j.0) ∙ both w.0 i.1,
          g
              ∙ ap (λ t. t ++ r.1) w.1
              ∙ ap (λ u. of r.0 ∷ u) (i.2 ∙ ap (λ u. map of q.0 ++ u) j.1)
              ∙ ap (λ xs. map of xs ++ rest) j.0,
        )

    pub counted_codec : {E : List ℕ → Type 0} (n : ℕ)
        → Codec E (λ xs. length xs == n && list_all legal xs) (map of)
        (Plain (λ xs. length xs == n && list_all legal xs) (map of)) (values_in n (letter f))
    counted_codec n = record {
      own = λ xs h. (h, refl);
      told = λ xs t w. w.0;
      back = λ xs t rest w h.
          ap (λ t. values_in n (letter f) (t ++ rest)) w.1
          ∙ ap (λ k. values_in k (letter f) (map of xs ++ rest))
          (sym (eqb-true (length xs) n (both_left (length xs == n) (list_all legal xs) w.0)))
          ∙ counted_back xs rest (both_right (length xs == n) (list_all legal xs) w.0);
      sound = λ s xs rest e.
          let i = counted_sound n s xs rest e in
          (map of xs, (both (eq-eqb (length xs) n i.0) i.1, refl), i.2);
    }

-- what a byte names has that byte
named_is : {A : Type 0} (of : A → ℕ) (xs : List A) (b : ℕ) (x : A) → first_named of xs b ≡ Some x → b ≡ of x
named_is of [] b x e = cc
named_is of (y ∷ ys) b x e = grind (arith, nat_tests, named_is of ys b x)

-- a finite type, each value by a byte of its own
pub named_codec : {A : Type 0} {E : List ℕ → Type 0} (of : A → ℕ) (xs : List A)
    → ((x : A) → first_named of xs (of x) ≡ Some x)
    → Codec E (λ _. true) (λ x. of x ∷ []) (Plain (λ _. true) (λ x. of x ∷ [])) (letter (first_named of xs))
named_codec of xs each =
    letter_codec (λ _. true) of (first_named of xs) (λ x h. each x) (λ b x e. (refl, named_is of xs b x e))

-- two values, one after the other, are one
module _
    {A B C : Type 0}
    (mk : A → B → C)
    {E F : List ℕ → Type 0}
    {lA : A → Bool}
    {tA : A → List ℕ}
    {wA : A → List ℕ → Type 0}
    {f : List ℕ → Option (A × List ℕ)}
    {lB : B → Bool}
    {tB : B → List ℕ}
    {wB : B → List ℕ → Type 0}
    {g : List ℕ → Option (B × List ℕ)}
    (c_a : Codec E lA tA wA f)
    (c_b : Codec F lB tB wB g)
  where
    pub pair_back : (x : A) (y : B) (a b rest : List ℕ) → wA x a → wB y b → E (b ++ rest) → F rest
        → pair_of mk f g (a ++ (b ++ rest)) ≡ Some (mk x y, rest)
    pair_back x y a b rest u v e h =
        ap (λ r. r >>= λ p. g p.1 >>= λ q. Some (mk p.0 q.0, q.1)) (c_a.back x a (b ++ rest) u e)
        ∙ ap (λ r. r >>= λ q. Some (mk x q.0, q.1)) (c_b.back y b rest v h)

    pub pair_sound : (s : List ℕ) (z : C) (rest : List ℕ) → pair_of mk f g s ≡ Some (z, rest)
        → (x : A) × (y : B) × (a : List ℕ) × (b : List ℕ) × wA x a × wB y b × (mk x y ≡ z) × (s ≡ a ++ (b ++ rest))
    pair_sound s z rest e =
        let (r, p, q) = bind_some (f s) (λ r. g r.1 >>= λ y. Some (mk r.0 y.0, y.1)) e in
        let (v, m, n) = bind_some (g r.1) (λ y. Some (mk r.0 y.0, y.1)) q in
        let (a, wa, ea) = c_a.sound s r.0 r.1 p in
        let (b, wb, eb) = c_b.sound r.1 v.0 v.1 m in
        let k = some_pair_parts (mk r.0 v.0) z v.1 rest n in
        (r.0, v.0, a, b, wa, wb, k.0, ea ∙ ap (λ t. a ++ t) (eb ∙ ap (λ t. b ++ t) k.1))

-- a value behind a byte
module _
    {A : Type 0}
    {E : List ℕ → Type 0}
    {legal : A → Bool}
    {text : A → List ℕ}
    {read : List ℕ → Option (A × List ℕ)}
    (c : Char)
    (it : Codec E legal text (Plain legal text) read)
  where
    abbrev behind_it : A → List ℕ
    behind_it x = code c ∷ text x

    past_back : (x : A) (t rest : List ℕ) → Plain legal behind_it x t → E rest
        → preceded_by c read (t ++ rest) ≡ Some (x, rest)
    past_back x t rest w h =
        ap (λ s. preceded_by c read (s ++ rest)) w.1
        ∙ if_yes (read (text x ++ rest)) None (eq-eqb (code c) (code c) refl)
        ∙ it.back x (text x) rest (w.0, refl) h

    past_sound : (s : List ℕ) (x : A) (rest : List ℕ) → preceded_by c read s ≡ Some (x, rest)
        → (t : List ℕ) × Plain legal behind_it x t × (s ≡ t ++ rest)
    past_sound [] x rest e = cc
    past_sound (b ∷ s) x rest e =
        let (y, o) = cond_is (b is c) (read s) e in
        let (t, w, f) = it.sound s x rest o in
        (code c ∷ text x, (w.0, refl), cc (eqb-true b (code c) y))

    pub past_codec : Codec E legal behind_it (Plain legal behind_it) (preceded_by c read)
    past_codec = record { own = λ x h. (h, refl); told = λ x t w. w.0; back = past_back; sound = past_sound }

behind_is : (t s : List ℕ) {rest : List ℕ} → strip_prefix t s ≡ Some rest → s ≡ t ++ rest
behind_is [] s e = same_Some _ _ e
behind_is (c ∷ t) [] e = cc
behind_is (c ∷ t) (b ∷ s) e =
    let (h, f) = cond_is (b == c) (strip_prefix t s) e in
    ap (λ b. b ∷ s) (eqb-true b c h) ∙ ap (λ s. c ∷ s) (behind_is t s f)

or_else : {A : Type 0} (o p : Option A) {x : A} → option_or o p ≡ Some x → (o ≡ Some x) ⊎ (p ≡ Some x)
or_else None p e = inr e
or_else (Some y) p e = inl e

-- a finite type, each value by a text of its own
module _ {A : Type 0} (text : A → List ℕ) where
  spelled_sound : (xs : List A) (s : List ℕ) (x : A) (rest : List ℕ) → first_spelled text xs s ≡ Some (x, rest)
      → s ≡ text x ++ rest
  spelled_sound [] s x rest e = cc
  spelled_sound (y ∷ ys) s x rest e =
      elim (or_else (strip_prefix (text y) s >>= λ rest. Some (y, rest)) (first_spelled text ys s) e) [
        | inl f ↦
            let (r, h, k) = bind_some (strip_prefix (text y) s) (λ rest. Some (y, rest)) f in
            let q = some_pair_parts y x r rest k in
            behind_is (text y) s h ∙ ap (λ r. text y ++ r) q.1 ∙ ap (λ y. text y ++ rest) q.0
        | inr f ↦ spelled_sound ys s x rest f
      ]

  pub spelled_codec : {E : List ℕ → Type 0} (xs : List A)
      → ((x : A) (rest : List ℕ) → first_spelled text xs (text x ++ rest) ≡ Some (x, rest))
      → Codec E (λ _. true) text (Plain (λ _. true) text) (first_spelled text xs)
  spelled_codec xs each = record {
    own = λ x h. (refl, refl);
    told = λ x t w. refl;
    back = λ x t rest w h. ap (λ t. first_spelled text xs (t ++ rest)) w.1 ∙ each x rest;
    sound = λ s x rest e. (text x, (refl, refl), spelled_sound xs s x rest e);
  }

-- all of a parameter, and lists
module _
    {A : Type 0}
    {legal : A → Bool}
    {text : A → List ℕ}
    {writes : A → List ℕ → Type 0}
    {read : List ℕ → Option (A × List ℕ)}
    (it : Codec Ends legal text writes read)
  where
    whole_back : (x : A) (s : List ℕ) → writes x s → whole_value read s ≡ Some x
    whole_back x s w =
        ap (λ t. whole_value read t) (sym (append-nil s))
        ∙ ap (λ r. r >>= λ p. value_at_end p.0 p.1) (it.back x s [] w tt)

    ended_is : (x y : A) (s : List ℕ) → value_at_end x s ≡ Some y → (s ≡ []) × (x ≡ y)
    ended_is x y [] e = (refl, cc)
    ended_is x y (b ∷ s) e = cc

    whole_sound : (s : List ℕ) (x : A) → whole_value read s ≡ Some x → writes x s
    whole_sound s x e =
        let (r, p, q) = bind_some (read s) (λ r. value_at_end r.0 r.1) e in
        let (z, k) = ended_is r.0 x r.1 q in
        let (t, w, f) = it.sound s r.0 r.1 p in
        let g : t ≡ s = sym (f ∙ ap (λ r. t ++ r) z ∙ append-nil t) in
        subst (λ x. writes x s) k (subst (λ s. writes r.0 s) g w)

    pub whole_says : WholeCodec legal text writes (whole_value read)
    whole_says = record { own = it.own; told = it.told; back = whole_back; sound = whole_sound }

    list_back : (n : ℕ) (xs : List A) (s : List ℕ) → length xs ≤ n → JoinedBy writes xs s → list_read read n s ≡ Some xs
    list_back n [] s h w = absurd w
    list_back zero (x ∷ xs) s h w = absurd (omega arith)
    list_back (suc n) (x ∷ []) s h w =
        ap (λ t. list_read read (suc n) t) (sym (append-nil s))
        ∙ ap (λ r. r >>= λ p. list_behind p.0 (list_read read n) p.1) (it.back x s [] w tt)
    list_back (suc n) (x ∷ y ∷ xs) s h (t, rest, w, more, e) =
        ap (λ t. list_read read (suc n) t) e
        ∙ ap (λ r. r >>= λ p. list_behind p.0 (list_read read n) p.1) (it.back x t (code " " ∷ rest) w refl)
        ∙ ap (λ o. o >>= λ ys. Some (x ∷ ys)) (list_back n (y ∷ xs) rest (omega arith) more)

    longer : (x : A) (n : ℕ) (xs : List A) (t rest s : List ℕ) → writes x t → s ≡ t ++ code " " ∷ rest
        → WritesList writes n xs rest
        → WritesList writes (suc n) (x ∷ xs) s
    longer x n [] t rest s w e more = absurd more.1
    longer x n (y ∷ ys) t rest s w e more = (omega (arith, more.0), (t, rest, w, more.1, e))

    list_next : (n : ℕ) → ((s : List ℕ) (xs : List A) → list_read read n s ≡ Some xs → WritesList writes n xs s)
        → (s : List ℕ) (xs : List A) (x : A) (t u : List ℕ) → writes x t → s ≡ t ++ u
        → list_behind x (list_read read n) u ≡ Some xs
        → WritesList writes (suc n) xs s
    list_next n ih s xs x t [] w f q =
        subst (λ xs. WritesList writes (suc n) xs s) (same_Some (x ∷ []) xs q)
        (omega arith, subst (λ s. writes x s) (sym (f ∙ append-nil t)) w)
    list_next n ih s xs x t (b ∷ u) w f q =
        let (y, o) = cond_is (b is " ") (list_read read n u >>= λ ys. Some (x ∷ ys)) q in
        let (ys, l, k) = bind_some (list_read read n u) (λ ys. Some (x ∷ ys)) o in
        subst (λ xs. WritesList writes (suc n) xs s) (same_Some (x ∷ ys) xs k)
        (longer x n ys t u s w (f ∙ ap (λ c. t ++ c ∷ u) (eqb-true b (code " ") y)) (ih u ys l))

    list_sound : (n : ℕ) (s : List ℕ) (xs : List A) → list_read read n s ≡ Some xs → WritesList writes n xs s
    list_sound zero s xs e = cc
    list_sound (suc n) s xs e =
        let (r, p, q) = bind_some (read s) (λ r. list_behind r.0 (list_read read n) r.1) e in
        let (t, w, f) = it.sound s r.0 r.1 p in
        list_next n (list_sound n) s xs r.0 t r.1 w f q

    list_text_own : (xs : List A) → 1 ≤ length xs → list_all legal xs ≡ true → JoinedBy writes xs (list_text text xs)
    list_text_own [] l h = absurd (omega arith)
    list_text_own (x ∷ []) l h =
        subst (λ s. writes x s) (sym (append-nil (text x))) (it.own x (both_left (legal x) true h))
    list_text_own (x ∷ y ∷ xs) l h = (
      text x,
      list_text text (y ∷ xs),
      it.own x (both_left (legal x) (list_all legal (y ∷ xs)) h),
      list_text_own (y ∷ xs) (omega arith) (both_right (legal x) (list_all legal (y ∷ xs)) h),
      refl,
    )

    list_own : (n : ℕ) (xs : List A) → is_list legal n xs ≡ true → WritesList writes n xs (list_text text xs)
    list_own n xs h =
        let sizes = both_left (nat_le 1 (length xs) && nat_le (length xs) n) (list_all legal xs) h in (
          leb-true (length xs) n (both_right (nat_le 1 (length xs)) (nat_le (length xs) n) sizes),
          list_text_own xs (leb-true 1 (length xs) (both_left (nat_le 1 (length xs)) (nat_le (length xs) n) sizes))
              (both_right (nat_le 1 (length xs) && nat_le (length xs) n) (list_all legal xs) h),
        )

    joined_told : (xs : List A) (s : List ℕ) → JoinedBy writes xs s → (1 ≤ length xs) × (list_all legal xs ≡ true)
    joined_told [] s w = absurd w
    joined_told (x ∷ []) s w = (omega arith, both (it.told x s w) refl)
    joined_told (x ∷ y ∷ xs) s (t, rest, w, more, e) =
        (omega arith, both (it.told x t w) (joined_told (y ∷ xs) rest more).1)

    list_told : (n : ℕ) (xs : List A) (s : List ℕ) → WritesList writes n xs s → is_list legal n xs ≡ true
    list_told n xs s w =
        let more = joined_told xs s w.1 in
        both (both (le-leb 1 (length xs) more.0) (le-leb (length xs) n w.0)) more.1

    pub list_says : (n : ℕ) → WholeCodec (is_list legal n) (list_text text) (WritesList writes n) (list_read read n)
    list_says n = record {
      own = list_own n;
      told = list_told n;
      back = λ xs s w. list_back n xs s w.0 w.1;
      sound = list_sound n;
    }
