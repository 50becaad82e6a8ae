-- What a host records is believed to its end: each line that it wrote belongs, and the reader then stands where the
-- host does; cut anywhere, a front of it does so.
-- Assumes nothing.
use Rattle.std.specs.List.{list_all}
use Rattle.std.specs.Result.{result_ok}
use Rattle.std.specs.Option.{option_map}
use Rattle.std.proofs.Common.{ℕ, zero, suc, ◌≤◌, ◌<◌, ◌^◌, ◌≡◌, Bool, true, false, List, [], ◌∷◌, ◌++◌, arith, length}
use Rattle.std.proofs.Common.{take, refl, sym, ap, ◌∙◌, subst, Option, Some, None, Result, Ok, codes, inl, inr}
use Rattle.std.proofs.Common.{append_assoc, map}
use Rattle.std.proofs.lemmas.Bool.Decides.{nat_tests}
use Prim.Native.Char.{code}
use Rattle.text.specs.Scans.{is_same_by, itself}
use Rattle.text.specs.Outcomes.{CallResult, served_as}
use Rattle.text.proofs.Choices.{if_yes, if_no, both}
use Rattle.words.specs.Codec.{◌>>=◌}
use Rattle.record.specs.declared.types.Device.{Device}
use Rattle.record.specs.declared.refusal.Refusal.{Refusal}
use Rattle.crc32.proofs.Changes.{crc32_on_within}
use Rattle.ours.specs.Board.{ours}
use Rattle.demands.specs.Calls.{Call, after, run}
use Rattle.history.specs.Calls.{LogCall}
use Rattle.history.specs.Entries.{LogEntry, header, call, stated, is_sayable_entry, IsTypedEntry, entry_text}
use Rattle.history.specs.Entries.{entry_line, entry_in}
use Rattle.history.specs.Shown.{device_shown}
use Rattle.textio.specs.Lines.{lines_ended}
use Rattle.history.specs.Recording.{cannot_follow, advanced, recorded_by, header_next, stated_next}
use Rattle.history.specs.declared.recorder.Recorder.{Recorder}
use Rattle.history.proofs.Chain.{served, refused, tried, stated_tried}
use Rattle.history.proofs.EntriesBack.{entry_back}
use Rattle.history.proofs.Logs.{no_lines, line_ended, line_cut}
use Rattle.history.proofs.Printable.{not_lf, entry_no_lf, line_bytes}
use Rattle.recorded.specs.Recorded.{is_served, recorded_call, recorded, replied_by, replies_of, IsTypedCall}
use Rattle.recorded.specs.Playing.{belongs, entry_calls, all_said, PlaysAs}
use Rattle.recorded.specs.Played.{call_told}
use Rattle.recorded.specs.Chain.{Misfit, misfit, unless, said_there, entry_told, made_told, device_made, log_made}
use Rattle.recorded.specs.Hosts.{HostStep, begins, makes, states, step_written, device_by, host_log}
use Rattle.recorded.specs.Hosts.{recorder_left, step_calls, IsKept, AreKept, IsTypedStep, AreTypedSteps}
use Rattle.recorded.specs.Hosts.{host_left}
use Rattle.recorded.specs.Chain.{Followed, and_reply, followed}
use Rattle.recorded.proofs.CallsSayable.{typed}
use Rattle.recorded.proofs.Written.{all_said-map, plays_as}
use Rattle.recorded.proofs.Same.{IsPlayedSame, played_same, refused_leaves}

-- ---- what the recorder writes stands where it wrote it

pub same_itself : (s : List ℕ) → is_same_by itself s s ≡ true
same_itself [] = refl
same_itself (b ∷ s) = grind (arith, nat_tests, same_itself s)

header_stands : (r : Recorder) (d : Device) (t : Option (List ℕ)) → misfit r d (header_next r t) ≡ None
unfolding misfit
header_stands r d t = grind (arith, nat_tests)

call_stands : (r : Recorder) (d : Device) (c : LogCall) → cannot_follow r (call c) ≡ false
    → misfit r d (call c) ≡ None
unfolding misfit
call_stands r d c h = grind (arith, nat_tests)

stated_stands : (r : Recorder) (d : Device) → cannot_follow r (stated_next r (device_shown d)) ≡ false
    → misfit r d (stated_next r (device_shown d)) ≡ None
unfolding misfit
stated_stands r d h = grind (arith, nat_tests, same_itself (device_shown d))

module _ (r : Recorder) (d : Device) (e : LogEntry) where
  pub told_again : IsTypedEntry e → is_sayable_entry e ≡ true → misfit r d e ≡ None
      → entry_told r d (entry_text e) ≡ Ok e
  told_again t h fits = ap (said_there r d) (entry_back e t h) ∙ ap (λ (m : Option Misfit). unless m e) fits

  pub line_made : (l : List ℕ) (ls : List (List ℕ)) (n : ℕ) (q : Recorder) (k : Device) (f : Followed)
      → entry_told r d l ≡ Ok e
      → made_told d e ≡ Ok n
      → log_made r d e l ≡ q
      → device_made d e ≡ k
      → followed q k ls ≡ Some f
      → followed r d (l ∷ ls) ≡ Some (and_reply d e f)
  line_made l ls n q k f told made log device rest =
      ap (λ (o : Result LogEntry Misfit). result_ok o >>= λ e. result_ok (made_told d e)
      >>= λ n. option_map (and_reply d e) (followed (log_made r d e l) (device_made d e) ls)) told
      ∙ ap (λ (o : Result ℕ Misfit). result_ok o
      >>= λ n. option_map (and_reply d e) (followed (log_made r d e l) (device_made d e) ls)) made
      ∙ ap (option_map (and_reply d e)) ((λ i. followed (log i) (device i) ls) ∙ rest)

-- ---- one step of a host

record Small (r : Recorder) : Type 0 where
  lines : r.lines < 2 ^ 32
  sum : r.sum < 2 ^ 32

small_next : (r : Recorder) (e : LogEntry) → Small r → is_sayable_entry e ≡ true → cannot_follow r e ≡ false
    → Small (advanced r e)
small_next r (header f s t) k h free =
    record { lines = omega arith; sum = crc32_on_within r.sum _ k.sum (line_bytes (header f s t) h) }
small_next r (call c) k h free =
    record { lines = grind (arith, k.lines); sum = crc32_on_within r.sum _ k.sum (line_bytes (call c) h) }
small_next r (stated n s shown) k h free =
    record { lines = grind (arith, k.lines); sum = crc32_on_within r.sum _ k.sum (line_bytes (stated n s shown) h) }

-- the lines belong, and the reader then stands where the host does; what they say is what is recorded of its calls
record Believes (r : Recorder) (d : Device) (ls : List (List ℕ)) (ts : List (HostStep × ℕ)) : Type 0 where
  stands : followed r d ls ≡ Some (host_left r d ts)
  says : (es : List LogEntry) × (map entry_in ls ≡ map Some es) × (entry_calls es ≡ recorded d (step_calls ts))

module _ (r : Recorder) (d : Device) (s : HostStep) (n : ℕ) where
  abbrev recorder : Recorder
  recorder = (step_written r d s n).leaves

  abbrev GoesOn : List (List ℕ) → List (List ℕ) → Type 0
  GoesOn all ls = (ts : List (HostStep × ℕ))
      → Believes recorder (device_by d s) ls ts
      → Believes r d all ((s, n) ∷ ts)

  data Done : Type 0 where
    wrote : (l : List ℕ) → list_all not_lf l ≡ true → (step_written r d s n).bytes ≡ l ++ codes "\n"
        → Small recorder
        → ((ls : List (List ℕ)) → GoesOn (l ∷ ls) ls)
        → Done
    silent : (step_written r d s n).bytes ≡ [] → Small recorder → ((ls : List (List ℕ)) → GoesOn ls ls) → Done

-- it wrote the line of an entry that is no call
still : (r : Recorder) (d : Device) (e : LogEntry) (s : HostStep) (n : ℕ) → Small r → IsTypedEntry e
    → misfit r d e ≡ None
    → is_sayable_entry e ≡ true
    → (step_written r d s n).bytes ≡ entry_line e
    → Small (step_written r d s n).leaves
    → made_told d e ≡ Ok 0
    → log_made r d e (entry_text e) ≡ (step_written r d s n).leaves
    → device_made d e ≡ device_by d s
    → ((ts : List (HostStep × ℕ))
    → and_reply d e (host_left (step_written r d s n).leaves (device_by d s) ts) ≡ host_left r d ((s, n) ∷ ts))
    → ((ts : List (HostStep × ℕ)) (es : List LogEntry) → entry_calls es ≡ recorded (device_by d s) (step_calls ts)
    → entry_calls (e ∷ es) ≡ recorded d (step_calls ((s, n) ∷ ts)))
    → Done r d s n
still r d e s n small t fits h bytes next made log device left said =
    wrote (entry_text e) (entry_no_lf e h) bytes next
    (λ ls ts rest.
    let (es, all, calls) = rest.says in
    record {
      stands = line_made r d e (entry_text e) ls 0 (step_written r d s n).leaves (device_by d s)
          (host_left (step_written r d s n).leaves (device_by d s) ts) (told_again r d e t h fits) made log device
          rest.stands
          ∙ ap Some (left ts);
      says = (e ∷ es, (λ i. entry_back e t h i ∷ all i), said ts es calls);
    })

begun : (r : Recorder) (d : Device) (t : Option (List ℕ)) (n : ℕ) → Small r → Done r d (begins t) n
begun r d t n k =
    let e = header_next r t in
    elim (tried r e n) [
      | served h free said bytes next ↦
          still r d e (begins t) n k k.sum (header_stands r d t) h bytes
          (subst Small (sym next) (small_next r e k h free)) refl (sym next) refl (λ ts. refl) (λ ts es same. same)
      | refused said bytes next ↦
          silent bytes (subst Small (sym next) k)
          (λ ls ts rest. record {
            stands = ap (λ (q : Recorder). followed q d ls) (sym next) ∙ rest.stands;
            says = rest.says;
          })
    ]

stated_there : (r : Recorder) (d : Device) (n : ℕ) → Small r → Done r d states n
stated_there r d n k =
    let e = stated_next r (device_shown d) in
    elim (stated_tried r d n) [
      | served h free said bytes next ↦
          still r d e states n k (k.lines, k.sum) (stated_stands r d free) h bytes
          (subst Small (sym next) (small_next r e k h free)) refl (sym next) refl (λ ts. refl) (λ ts es same. same)
      | refused said bytes next ↦
          silent bytes (subst Small (sym next) k)
          (λ ls ts rest. record {
            stands = ap (λ (q : Recorder). followed q d ls) (sym next) ∙ rest.stands;
            says = rest.says;
          })
    ]

module _ (r : Recorder) (d : Device) (c : Call) (n : ℕ) (k : Small r) (t : IsTypedCall c) where
  abbrev entry : LogEntry
  entry = call (recorded_call d c)

  abbrev recorder_then : Recorder
  recorder_then = (step_written r d (makes c) n).leaves

  was_recorded : is_served d c ≡ true → is_sayable_entry entry ≡ true → cannot_follow r entry ≡ false
      → (recorded_by r entry n).bytes ≡ entry_line entry
      → (recorded_by r entry n).leaves ≡ advanced r entry
      → Done r d (makes c) n
  was_recorded done h free bytes next =
      let s : IsPlayedSame d c = played_same d c done in
      let b : belongs d (recorded_call d c) ≡ true = both s.served s.there in
      let one : step_written r d (makes c) n ≡ recorded_by r entry n = if_yes _ _ done in
      let same : recorder_then ≡ advanced r entry
      = ap (λ (w : CallResult Refusal (Unit {0}) Recorder). w.leaves) one ∙ next in
      wrote (entry_text entry) (entry_no_lf entry h)
      (ap (λ (w : CallResult Refusal (Unit {0}) Recorder). w.bytes) one ∙ bytes)
      (subst Small (sym same) (small_next r entry k h free))
      (λ ls ts rest.
      let (es, all, calls) = rest.says in
      record {
        stands = line_made r d entry (entry_text entry) ls (call_told d (recorded_call d c)).length recorder_then
            (after ours d c) (host_left recorder_then (after ours d c) ts)
            (told_again r d entry (typed d c t) h (call_stands r d (recorded_call d c) free)) (if_yes _ _ b)
            (if_yes _ _ b ∙ sym same) s.device rest.stands
            ∙ (λ i. Some (record {
              log = recorder_left recorder_then (after ours d c) ts;
              device = run ours (after ours d c) (step_calls ts);
              calls = sym (if_yes (recorded_call d c ∷ recorded (after ours d c) (step_calls ts))
                  (recorded (after ours d c) (step_calls ts)) done) i;
              replies = (ap (λ (w : List ℕ). w ∷ replies_of (after ours d c) (step_calls ts)) s.replied
                  ∙ sym (if_yes (replied_by d c ∷ replies_of (after ours d c) (step_calls ts))
                  (replies_of (after ours d c) (step_calls ts)) done)) i;
            }));
        says = (
          entry ∷ es,
          (λ i. entry_back entry (typed d c t) h i ∷ all i),
          ap (λ (l : List LogCall). recorded_call d c ∷ l) calls
              ∙ sym (if_yes (recorded_call d c ∷ recorded (after ours d c) (step_calls ts))
              (recorded (after ours d c) (step_calls ts)) done),
        );
      })

  unrecorded : is_served d c ≡ false → Done r d (makes c) n
  unrecorded h =
      let none : step_written r d (makes c) n ≡ served_as tt [] r = if_no _ _ h in
      let same : recorder_then ≡ r = ap (λ (w : CallResult Refusal (Unit {0}) Recorder). w.leaves) none in
      let leaves : after ours d c ≡ d = refused_leaves d c h in
      silent (ap (λ (w : CallResult Refusal (Unit {0}) Recorder). w.bytes) none) (subst Small (sym same) k)
      (λ ls ts rest.
      let (es, all, calls) = rest.says in
      record {
        stands = (λ i. followed (sym same i) (sym leaves i) ls)
            ∙ rest.stands
            ∙ (λ i. Some (record {
              log = recorder_left recorder_then (after ours d c) ts;
              device = run ours (after ours d c) (step_calls ts);
              calls = sym (if_no (recorded_call d c ∷ recorded (after ours d c) (step_calls ts))
                  (recorded (after ours d c) (step_calls ts)) h) i;
              replies = sym (if_no (replied_by d c ∷ replies_of (after ours d c) (step_calls ts))
                  (replies_of (after ours d c) (step_calls ts)) h) i;
            }));
        says = (
          es,
          all,
          calls
              ∙ sym (if_no (recorded_call d c ∷ recorded (after ours d c) (step_calls ts))
              (recorded (after ours d c) (step_calls ts)) h),
        );
      })

  made : (s : Bool) → is_served d c ≡ s → IsKept r d (makes c) n → Done r d (makes c) n
  made true h kept =
      elim (tried r entry n) [
        | served s free said bytes next ↦ was_recorded h s free bytes next
        | refused said bytes next ↦
            absurd (grind (arith, kept h, said))
      ]
  made false h kept = unrecorded h

step_done : (r : Recorder) (d : Device) (s : HostStep) (n : ℕ) → Small r → IsTypedStep s → IsKept r d s n → Done r d s n
step_done r d (begins t) n k h kept = begun r d t n k
step_done r d (makes c) n k h kept = made r d c n k h (is_served d c) refl kept
step_done r d states n k h kept = stated_there r d n k

-- ---- all of them

none_believed : (r : Recorder) (d : Device) (ls : List (List ℕ)) → ls ≡ [] → Believes r d ls []
none_believed r d ls e =
    record { stands = ap (followed r d) e; says = ([], ap (map entry_in) e, refl) }

believed_from : (ss : List (HostStep × ℕ)) (r : Recorder) (d : Device) → Small r → AreTypedSteps ss → AreKept r d ss
    → Believes r d (lines_ended [] (host_log r d ss)) ss
believed_from [] r d k t h = none_believed r d (lines_ended [] []) no_lines
believed_from ((s, n) ∷ ss) r d k (t, ts) (h, hs) =
    let more = host_log (step_written r d s n).leaves (device_by d s) ss in
    elim (step_done r d s n k t h) [
      | wrote l no_lf bytes next on ↦
          let lines : lines_ended [] (host_log r d ((s, n) ∷ ss)) ≡ l ∷ lines_ended [] more
          = ap (λ (b : List ℕ). lines_ended [] (b ++ more)) bytes
          ∙ ap (lines_ended []) (append_assoc l (codes "\n") more)
          ∙ line_ended l more no_lf in
          subst (λ (ls : List (List ℕ)). Believes r d ls ((s, n) ∷ ss)) (sym lines)
          (on (lines_ended [] more) ss (believed_from ss (step_written r d s n).leaves (device_by d s) next ts hs))
      | silent bytes next on ↦
          subst (λ (b : List ℕ). Believes r d (lines_ended [] (b ++ more)) ((s, n) ∷ ss)) (sym bytes)
          (on (lines_ended [] more) ss (believed_from ss (step_written r d s n).leaves (device_by d s) next ts hs))
    ]

abbrev FrontBelieved : Recorder → Device → List (HostStep × ℕ) → List ℕ → Type 0
FrontBelieved r d ss b = (m : ℕ) × (m ≤ length ss) × Believes r d (lines_ended [] b) (take m ss)

front_from : (ss : List (HostStep × ℕ)) (r : Recorder) (d : Device) → Small r → AreTypedSteps ss → AreKept r d ss
    → (i : ℕ)
    → FrontBelieved r d ss (take i (host_log r d ss))
front_from [] r d k t h zero = (0, omega arith, none_believed r d (lines_ended [] []) no_lines)
front_from [] r d k t h (suc i) = (0, omega arith, none_believed r d (lines_ended [] []) no_lines)
front_from ((s, n) ∷ ss) r d k (t, ts) (h, hs) i =
    let q = (step_written r d s n).leaves in
    let more = host_log q (device_by d s) ss in
    elim (step_done r d s n k t h) [
      | wrote l no_lf bytes next on ↦
          let text : host_log r d ((s, n) ∷ ss) ≡ l ++ (code "\n" ∷ more)
          = ap (λ (b : List ℕ). b ++ more) bytes ∙ append_assoc l (codes "\n") more in
          elim (line_cut l more no_lf i) [
            | inl none ↦ (
              0,
              omega arith,
              none_believed r d (lines_ended [] (take i (host_log r d ((s, n) ∷ ss))))
                  (ap (λ (b : List ℕ). lines_ended [] (take i b)) text ∙ none),
            )
            | inr (j, one) ↦
                let (m, few, rest) = front_from ss q (device_by d s) next ts hs j in
                let lines : lines_ended [] (take i (host_log r d ((s, n) ∷ ss))) ≡ l ∷ lines_ended [] (take j more)
                = ap (λ (b : List ℕ). lines_ended [] (take i b)) text ∙ one in (
                  suc m,
                  omega (arith, few),
                  subst (λ (ls : List (List ℕ)). Believes r d ls ((s, n) ∷ take m ss)) (sym lines)
                      (on (lines_ended [] (take j more)) (take m ss) rest),
                )
          ]
      | silent bytes next on ↦
          let (m, few, rest) = front_from ss q (device_by d s) next ts hs i in (
            suc m,
            omega (arith, few),
            subst (λ (b : List ℕ). Believes r d (lines_ended [] (take i (b ++ more))) ((s, n) ∷ take m ss)) (sym bytes)
                (on (lines_ended [] (take i more)) (take m ss) rest),
          )
    ]

-- so the log plays back as the calls were
plays : (r : Recorder) (d : Device) (b : List ℕ) (ts : List (HostStep × ℕ)) → Believes r d (lines_ended [] b) ts
    → (followed r d (lines_ended [] b) ≡ Some (host_left r d ts)) × PlaysAs d (step_calls ts) b
plays r d b ts h =
    let (es, all, calls) = h.says in (
      h.stands,
      plays_as d (step_calls ts) b
          (ap (λ (l : List (Option LogEntry)). option_map entry_calls (all_said l)) all
          ∙ ap (option_map entry_calls) (all_said-map es)
          ∙ ap Some calls),
    )

module _ (r : Recorder) (d : Device) (ss : List (HostStep × ℕ)) (lines : r.lines < 2 ^ 32) (sum : r.sum < 2 ^ 32) where
  pub believed : AreTypedSteps ss → AreKept r d ss
      → (followed r d (lines_ended [] (host_log r d ss)) ≡ Some (host_left r d ss))
      × PlaysAs d (step_calls ss) (host_log r d ss)
  believed t h =
      plays r d (host_log r d ss) ss (believed_from ss r d (record { lines = lines; sum = sum }) t h)

  pub front_believed : AreTypedSteps ss → AreKept r d ss → (i : ℕ)
      → (k : ℕ) × (k ≤ length ss)
      × (followed r d (lines_ended [] (take i (host_log r d ss))) ≡ Some (host_left r d (take k ss)))
      × PlaysAs d (step_calls (take k ss)) (take i (host_log r d ss))
  front_believed t h i =
      let (m, few, rest) = front_from ss r d (record { lines = lines; sum = sum }) t h i in
      let (stands, back) = plays r d (take i (host_log r d ss)) (take m ss) rest in
      (m, few, stands, back)
