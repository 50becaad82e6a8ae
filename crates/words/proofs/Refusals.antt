-- What is read as a refusal is its text, of four bytes; what is none: bytes that are not four, bytes that begin with a
-- digit, and a legal text.
-- Assumes nothing.
use Rattle.std.specs.List.{list_all}
use Rattle.std.proofs.Common.{ℕ, ◌≡◌, ◌≤◌, true, List, length, sym, ap, ◌∙◌, arith, slice_index_or, nat_le}
use Rattle.std.specs.Prelude.{Option, Some, None, not, ◌&&◌}
use Prim.Native.Char.{code}
use Rattle.text.proofs.Choices.{both_right}
use Rattle.words.specs.Codec.{whole_value}
use Rattle.words.specs.Combinations.{whole_says}
use Rattle.words.specs.Laws.{refusal_codec}
use Rattle.words.specs.Refusing.{error_reply_text, error_reply_read}
use Rattle.words.specs.Texts.{is_error_reply, is_text, is_text_byte}
use Rattle.words.specs.declared.error_reply.ErrorReply.{ErrorReply}

pub refusal_long : (s : List ℕ) → is_error_reply s ≡ true → length s ≡ 4
unfolding is_error_reply
refusal_long s r = grind arith

none_by : {A : Type 0} (o : Option A) → ((x : A) → o ≡ Some x → ⊥) → o ≡ None
none_by o h = grind arith

pub refusal_is : (p : List ℕ) (r : ErrorReply) → whole_value error_reply_read p ≡ Some r → p ≡ error_reply_text r
refusal_is p r e = ((whole_says refusal_codec).sound p r e).1

pub not_four : (p : List ℕ) → (length p ≡ 4 → ⊥) → whole_value error_reply_read p ≡ None
not_four p h = none_by (whole_value error_reply_read p) (λ r e. h (ap length (refusal_is p r e)))

pub digit_first : (p : List ℕ) → slice_index_or p 0 0 ≤ code "9" → whole_value error_reply_read p ≡ None
digit_first p h = grind arith

is_error_reply-error_reply_text : (r : ErrorReply) → is_error_reply (error_reply_text r) ≡ true
unfolding is_error_reply
is_error_reply-error_reply_text r = grind arith

pub text_no_refusal : (n : ℕ) (s : List ℕ) → is_text n s ≡ true → whole_value error_reply_read s ≡ None
unfolding is_text
text_no_refusal n s h =
    none_by (whole_value error_reply_read s) (λ r e.
    let no = both_right (nat_le (length s) n && list_all is_text_byte s) (not (is_error_reply s)) h in
    let yes : is_error_reply s ≡ true = ap is_error_reply (refusal_is s r e) ∙ is_error_reply-error_reply_text r in
    cc (sym no ∙ ap not yes))
