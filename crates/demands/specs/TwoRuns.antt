-- Two runs of the sample set-up with a password that meet every premise of RULES, Places, on an outsider. Place 0 is
-- opened by an outsider. Place 1 is opened by someone who knows the password, sets the power on, and 20 seconds later
-- off. In one run the outsider at place 0 asks for power-on and has failed; in the other it sends five bytes and is
-- still awaiting.
--   fresh_secured      our board's record after that set-up
--   led_on             power-on, led by the digest that place 1 awaits
--   calls_given bs     the calls, where place 0 gets the bytes bs: two openings, and calls_since bs, what both places
--                      say, with calls_later, what comes after the power-on
--   asking, waiting    the bytes that place 0 gets in the one run and in the other
-- Assumes nothing.
use Rattle.std.specs.Prelude.{ℕ, List, [], ◌∷◌, ◌++◌, codes}
use Rattle.digest.specs.Hex.{leading_digest}
use Rattle.record.specs.declared.types.Device.{Device}
use Rattle.ours.specs.Board.{ours}
use Rattle.demands.specs.Calls.{Call, opens, receives, passes}
use Rattle.demands.specs.Sample.{memory, with_cr}
use Rattle.demands.specs.WrongDoors.{secured_sample}

abbrev pub fresh_secured : Device
fresh_secured = (ours.set_up secured_sample).device

abbrev pub led_on : List ℕ
led_on = leading_digest 8 (codes "JBMIAProjectorLink") ++ codes "%1POWR 1" ++ codes "\r"

abbrev pub calls_later : List Call
calls_later = passes 20 ∷ receives 1 (with_cr "%1POWR 0") memory ∷ []

abbrev pub calls_since : List ℕ → List Call
calls_since bs = receives 0 bs memory ∷ receives 1 led_on memory ∷ calls_later

abbrev pub calls_given : List ℕ → List Call
calls_given bs = opens 7 memory ∷ opens 8 memory ∷ calls_since bs

abbrev pub asking : List ℕ
asking = with_cr "%1POWR 1"

abbrev pub waiting : List ℕ
waiting = codes "hello"
