-- A line whose call is not made leaves the log as it was; and what stands over the front of the lent memory, put back
-- there, stands over the memory.
-- Assumes nothing.
use Rattle.std.proofs.Common.{ℕ, ◌≡◌, ◌≤◌, List, ◌++◌, length, take, drop, sym, ap, ◌∙◌, Err, arith}
use Rattle.std.proofs.Common.{length-append, length-take-le, append-nil}
use Rattle.std.proofs.lemmas.List.{drop_all, drop-append-le, take-append-drop, length-drop, append_assoc}
use Rattle.std.proofs.Math.Seq.{sets}
use Rattle.text.specs.Words.{over}
use Rattle.text.proofs.Stores.{sets_over}
use Rattle.record.specs.declared.types.Device.{Device}
use Rattle.history.specs.Entries.{LogEntry, header, call, stated}
use Rattle.history.specs.declared.recorder.Recorder.{Recorder}
use Rattle.recorded.specs.Chain.{Misfit, made_told, log_made}

pub unmade_stays : (r : Recorder) (d : Device) (e : LogEntry) (l : List ℕ) (why : Misfit)
    → made_told d e ≡ Err why → log_made r d e l ≡ r
unmade_stays r d (header f s t) l why h = grind arith
unmade_stays r d (call c) l why h = grind arith
unmade_stays r d (stated n s shown) l why h = grind arith

-- a run as long as the memory
pub put_front : (l s : List ℕ) → length s ≡ length l → sets l 0 s ≡ s
put_front l s e =
    sets_over s l (omega arith)
    ∙ ap (λ (r : List ℕ). s ++ r) (drop_all (length s) l (omega arith))
    ∙ append-nil s

-- no more stands over memory than it has room for
fits_over : (b m : List ℕ) (n : ℕ) → length m ≡ n → length (over b m) ≡ n → length b ≤ n
fits_over b m n e f = omega (arith, length-append b (drop (length b) m), length-drop (length b) m)

pub over_front : (b m made : List ℕ) (n : ℕ) → n ≤ length m → length made ≡ n → made ≡ over b (take n m)
    → sets m 0 made ≡ over b m
over_front b m made n h e f =
    let front : length (take n m) ≡ n = length-take-le n m h in
    let within : length b ≤ n = fits_over b (take n m) n front (sym (ap length f) ∙ e) in
    sets_over made m (omega arith)
    ∙ ap (λ (k : ℕ). made ++ drop k m) e
    ∙ ap (λ (l : List ℕ). l ++ drop n m) f
    ∙ append_assoc b (drop (length b) (take n m)) (drop n m)
    ∙ ap (λ (l : List ℕ). b ++ l) (sym (drop-append-le (length b) (take n m) (drop n m) (omega arith)))
    ∙ ap (λ (l : List ℕ). b ++ drop (length b) l) (take-append-drop n m)
