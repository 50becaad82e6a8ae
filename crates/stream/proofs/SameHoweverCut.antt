-- However a stream is cut: once, for any machine, whatever byte ends its lines. The calls may leave the machine's
-- state in a larger record, and may take several lines each.
--   out_through g, took_through g   what is left of a state, of the record that g makes of it
--   Taking ..                       what a call does that is handed bytes: it takes some of them and runs over these
-- Assumes nothing.
use Rattle.std.specs.List.{list_all}
use Rattle.std.proofs.Common.{◌≡◌, refl, sym, ap, ◌∙◌, true, List, [], ◌∷◌, ◌++◌, append_assoc, append-nil, ℕ, zero}
use Rattle.std.proofs.Common.{suc, ◌+◌, ◌≤◌, arith, length, take, drop, length-drop, take-append-drop, ◌==◌, eq-eqb}
use Rattle.std.proofs.lemmas.Bool.{eqb-false}
use Rattle.std.proofs.Math.Seq.{take-length, take-append-add}
use mathlib.Core.List.{foldl}
use Rattle.text.proofs.Choices.{if_yes, if_by, both_right}
use Rattle.stream.specs.Machine.{Out, Took, without_reply, reply_then, took_bytes, one_step, run_over, one_call}
use Rattle.stream.specs.Machine.{handed_rest, handed_part, handed_parts, stream_of}
use Rattle.stream.proofs.UpToTheEnd.{not_end}
use Rattle.stream.proofs.OneCallGathers.{call_by}

module _ {D E : Type 0} (g : D → E) where
  abbrev pub out_through : Out D → Out E
  out_through o = record { state = g o.state; reply = o.reply }

  abbrev pub took_through : Took D → Took E
  took_through t = record { taken = t.taken; state = g t.state; reply = t.reply }

module _ (end : ℕ) (D : Type 0) (collect : D → ℕ → D) (ends : D → Out D) where
  abbrev ran : D → List ℕ → Out D
  ran = run_over end D collect ends

  abbrev stepped : D → ℕ → Out D
  stepped = one_step end D collect ends

  abbrev called : D → List ℕ → Took D
  called = one_call end D collect ends

  pub run_append : (d : D) (xs ys : List ℕ) → ran d (xs ++ ys) ≡ reply_then (ran d xs).reply (ran (ran d xs).state ys)
  unfolding run_over
  run_append d [] ys = refl
  run_append d (b ∷ xs) ys =
      let o = stepped d b in
      let p = ran o.state xs in
      ap (reply_then o.reply) (run_append o.state xs ys)
      ∙ ap {B = Out D} (λ (l : List ℕ). record { state = (ran p.state ys).state; reply = l })
      (sym (append_assoc o.reply p.reply (ran p.state ys).reply))

  module _ {E : Type 0} (g : D → E) (f : E → List ℕ → Took E) (IsReady : D → List ℕ → Type 0) where
    pub record Taking (d : D) (bs : List ℕ) : Type 0 where
      pub taken : ℕ
      pub some : 1 ≤ length bs → 1 ≤ taken
      pub runs : f (g d) bs ≡ took_through g (took_bytes taken (ran d (take taken bs)))
      pub ready : IsReady (ran d (take taken bs)).state (drop taken bs)

    module _ (takes : (d : D) (bs : List ℕ) → IsReady d bs → Taking d bs) where
      -- a call, and then what it did not take
      reply_then-handed_rest : (n : ℕ) (d : D) (bs : List ℕ) (k : Taking d bs)
          → let o = ran d (take k.taken bs) in
          let rest = drop k.taken bs in
          handed_rest f n (g o.state) rest ≡ out_through g (ran o.state rest)
          → reply_then o.reply (handed_rest f n (g o.state) rest) ≡ out_through g (ran d bs)
      reply_then-handed_rest n d bs k on =
          ap (reply_then (ran d (take k.taken bs)).reply) on
          ∙ ap (out_through g)
          (sym (run_append d (take k.taken bs) (drop k.taken bs)) ∙ ap (ran d) (take-append-drop k.taken bs))

      handed_runs : (n : ℕ) (d : D) (bs : List ℕ) → IsReady d bs → length bs ≤ n
          → handed_rest f n (g d) bs ≡ out_through g (ran d bs)
      unfolding handed_rest run_over
      handed_runs zero d [] r h = refl
      handed_runs zero d (b ∷ bs) r h = absurd (omega arith)
      handed_runs (suc n) d [] r h = refl
      handed_runs (suc n) d (b ∷ bs) r h =
          let k = takes d (b ∷ bs) r in
          let less : length (drop k.taken (b ∷ bs)) ≤ n = simp length-drop (omega (arith, k.some (omega arith))) in
          rw k.runs (reply_then-handed_rest n d (b ∷ bs) k (handed_runs n _ (drop k.taken (b ∷ bs)) k.ready less))

      part_runs : (d : D) (p : List ℕ) → IsReady d p → handed_part f (g d) p ≡ out_through g (ran d p)
      part_runs d p r = grind (arith, length-drop, reply_then-handed_rest, handed_runs)

      -- Ahead: what is known of the parts that are still to come
      module _ (Ahead : D → List (List ℕ) → Type 0)
          (first : (d : D) (p : List ℕ) (ps : List (List ℕ)) → Ahead d (p ∷ ps) → IsReady d p)
          (next : (d : D) (p : List ℕ) (ps : List (List ℕ)) → Ahead d (p ∷ ps) → Ahead (ran d p).state ps) where
        pub parts_run : (d : D) (ps : List (List ℕ)) → Ahead d ps
            → handed_parts f (g d) ps ≡ out_through g (ran d (stream_of ps))
        unfolding handed_parts stream_of run_over
        parts_run d [] a = refl
        parts_run d (p ∷ ps) a =
            ap (λ (o : Out E). reply_then o.reply (handed_parts f o.state ps)) (part_runs d p (first d p ps a))
            ∙ ap (reply_then (ran d p).reply) (parts_run (ran d p).state ps (next d p ps a))
            ∙ ap (out_through g) (sym (run_append d p (stream_of ps)))

  -- bytes that end no line are collected, and one call runs over what it takes
  run_plain : (d : D) (xs : List ℕ) → list_all (not_end end) xs ≡ true → ran d xs ≡ without_reply (foldl collect d xs)
  unfolding run_over
  run_plain d [] p = refl
  run_plain d (x ∷ xs) p =
      grind (arith, run_plain (collect d x) xs (both_right (not_end end x) (list_all (not_end end) xs) p))

  run_line : (d : D) (xs : List ℕ) → list_all (not_end end) xs ≡ true
      → ran d (xs ++ (end ∷ [])) ≡ ends (foldl collect d xs)
  unfolding run_over
  run_line d xs p = grind (arith, run_append, run_plain, if_yes, eq-eqb, append-nil)

  pub call_runs : (d : D) (bs : List ℕ) → let t = called d bs in t ≡ took_bytes t.taken (ran d (take t.taken bs))
  call_runs d bs =
      call_by end D collect ends d bs (λ l t. t ≡ took_bytes t.taken (ran d (take t.taken l)))
      (λ p. ap (took_bytes (length bs)) (sym (ap (ran d) (take-length bs) ∙ run_plain d bs p)))
      (λ xs more p.
      ap (took_bytes (length xs + 1)) (sym (ap (ran d) (take-append-add xs (end ∷ more) 1) ∙ run_line d xs p)))

  -- what is run over: one call's bytes, and then the rest
  pub run_called : (d : D) (bs : List ℕ) → let t = called d bs in
      ran d bs ≡ reply_then t.reply (ran t.state (drop t.taken bs))
  run_called d bs =
      let n = (called d bs).taken in
      let t = call_runs d bs in
      ap (ran d) (sym (take-append-drop n bs))
      ∙ run_append d (take n bs) (drop n bs)
      ∙ (λ i. reply_then (sym t i).reply (ran (sym t i).state (drop n bs)))

  some_taken : (d : D) (bs : List ℕ) → 1 ≤ length bs → 1 ≤ (called d bs).taken
  some_taken d bs =
      call_by end D collect ends d bs (λ l t. 1 ≤ length l → 1 ≤ t.taken) (λ p h. h) (λ xs more p h. omega arith)

  -- Live: the states in which f takes bytes as the machine does
  module _ (Live : D → Type 0)
      (live-collect : (d : D) (b : ℕ) → (b ≡ end → ⊥) → Live d → Live (collect d b))
      (live-ends : (d : D) → Live d → Live (ends d).state) where
    pub live_run : (d : D) (bs : List ℕ) → Live d → Live (ran d bs).state
    unfolding run_over
    live_run d [] r = r
    live_run d (b ∷ bs) r =
        live_run (stepped d b).state bs
        (if_by (λ (o : Out D). Live o.state) (b == end) (λ e. live-ends d r)
        (λ e. live-collect d b (eqb-false b end e) r))

    module _ {E : Type 0} (g : D → E) (f : E → List ℕ → Took E)
        (is_call : (d : D) (bs : List ℕ) → Live d → f (g d) bs ≡ took_through g (called d bs)) where
      pub calls_run : (d : D) (ps : List (List ℕ)) → Live d
          → handed_parts f (g d) ps ≡ out_through g (ran d (stream_of ps))
      calls_run =
          parts_run g f (λ d bs. Live d)
          (λ d bs r. record {
            taken = (called d bs).taken;
            some = some_taken d bs;
            runs = is_call d bs r ∙ ap (took_through g) (call_runs d bs);
            ready = live_run d (take (called d bs).taken bs) r;
          })
          (λ d ps. Live d) (λ d p ps r. r) (λ d p ps r. live_run d p r)

      pub same_however_cut : (d : D) (ps qs : List (List ℕ)) → Live d → stream_of ps ≡ stream_of qs
          → handed_parts f (g d) ps ≡ handed_parts f (g d) qs
      same_however_cut d ps qs r e = grind (arith, calls_run)
