-- A form that loads gives a legal record; what is read of a file is what all of it comes to.
-- Assumes nothing.
use Rattle.std.proofs.Common.{arith, ◌≡◌, ℕ, true, List, [], ◌++◌, take, Option, Some, None, Result, Ok, Err, sym, ap}
use Rattle.std.proofs.Common.{subst, ◌∙◌, IfSome, option_map}
use Rattle.record.specs.Legal.{is_legal}
use Rattle.text.specs.Outcomes.{CallResult, call_number, with_record}
use Rattle.record.specs.declared.types.Device.{Device}
use Rattle.stored.specs.Loading.{loaded_from}
use Rattle.stored.specs.Told.{load_error_number}
use Rattle.stored.proofs.Results.{accepted_legal}
use Rattle.stored.proofs.Fields.{Bytes}
use Rattle.stored.proofs.FormWithin.{loaded_from-take}
use Rattle.crc32.specs.Crc.{crc32_of}
use Rattle.stored.specs.declared.error.LoadError.{LoadError}
use Rattle.formfile.specs.declared.Begun.{Begun}
use Rattle.formfile.specs.Begun.{form_room, IsBegunBy, IsReadBy}
use Rattle.formfile.specs.declared.NotBegun.{NotBegun}
use Rattle.formfile.specs.declared.NotBegun.TheVariants.{Unread, Refused}

device_returned : (c : CallResult LoadError (Unit {0}) Device) (d : Device) → Ok d ≡ with_record c
    → (call_number load_error_number c ≡ 0) × (d ≡ c.leaves)
device_returned c d e = grind arith

pub loaded_is_legal : (bytes : List ℕ) (d : Device) → Ok d ≡ with_record (loaded_from bytes) → is_legal d ≡ true
loaded_is_legal bytes d e =
    let (served, made) = device_returned (loaded_from bytes) d e in ap is_legal made ∙ accepted_legal bytes served

-- as many bytes as no form has say what all of it says
fronts_alike : (s form : List ℕ) → Bytes s → s ≡ take form_room form → loaded_from form ≡ loaded_from s
fronts_alike s form bytes h = sym (ap loaded_from h ∙ loaded_from-take form (subst Bytes h bytes))

pub begun_by_front : (s form : List ℕ) (d : Device) (sum : ℕ) → Bytes s → Ok d ≡ with_record (loaded_from s)
    → sum ≡ crc32_of s → s ≡ take form_room form → IsBegunBy form (Ok (record { device = d; sum = sum }))
begun_by_front s form d sum bytes e m h =
    (ap with_record (fronts_alike s form bytes h) ∙ sym e, m ∙ ap crc32_of h)

pub refused_by_front : (s form : List ℕ) (why : LoadError) → Bytes s → Err why ≡ with_record (loaded_from s)
    → s ≡ take form_room form → IsBegunBy form (Err (Refused why))
refused_by_front s form why bytes e h = ap with_record (fronts_alike s form bytes h) ∙ sym e

read_by : (form : List ℕ) (r : Result Begun NotBegun) → IsBegunBy form r → IsReadBy form r
read_by form (Ok b) h = h
read_by form (Err (Unread e)) h = tt
read_by form (Err (Refused e)) h = h

-- what was read of a form after nothing, up to the limit
pub begun_by_known : (given known : Option (List ℕ)) (limit : ℕ) (none s : List ℕ) (r : Result Begun NotBegun)
    → given ≡ known → limit ≡ form_room → none ≡ [] → IfSome (option_map (take limit) given) (λ xs. s ≡ none ++ xs)
    → ((form : List ℕ) → s ≡ take form_room form → IsBegunBy form r) → IfSome known (λ form. IsReadBy form r)
begun_by_known given known limit none s r same most empty read by =
    all known (subst (λ (o : Option (List ℕ)). IfSome (option_map (take limit) o) (λ xs. s ≡ none ++ xs)) same read)
  where
    all : (o : Option (List ℕ)) → IfSome (option_map (take limit) o) (λ xs. s ≡ none ++ xs)
        → IfSome o (λ form. IsReadBy form r)
    all None e = tt
    all (Some form) e = read_by form r (by form (e ∙ (λ j. empty j ++ take (most j) form)))
