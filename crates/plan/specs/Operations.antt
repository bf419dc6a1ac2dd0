-- Document 02, Item 14: the lent set, and the answers of checker and planner: 1 (planner), 7, 3 with its position.
-- Assumes nothing.
use Rattle.std.specs.Prelude.{ℕ, suc, Bool, true, false, ◌&&◌, List, [], ◌∷◌, ◌++◌, leb, length}
use Rattle.std.specs.Prelude.{Option, None, Some}
use Rattle.lists.specs.Checked.{Checked, refused, ok, ◌>>=◌, ◌>>◌, require, found}
use Rattle.lists.specs.Refusal.{target_short, set_bad, device_bad}
use Rattle.lists.specs.Sizes.{most_text}
use Rattle.entries.specs.Parse.{Parse, got, bind}
use Rattle.entries.specs.Entry.{enc_text, one_text}
use Rattle.device.specs.Device as D
use Rattle.sets.specs.Sets.{ok_long, enc_long, one_long, encode_set, decode_set}
use Rattle.sets.specs.Answer.{Fault, of_set, of_record, Answer, refusal, acceptance}
use Rattle.plan.specs.Plan.{Naming, accepts, due, plan_text}

-- ---- the lent set: 1 to 16 device records, each with its wanted link of at most 255 bytes behind it

abbrev pub most_wishes : ℕ
most_wishes = 16

abbrev pub most_wanted : ℕ
most_wanted = 255

-- the bytes of the two, sound or not
pub record Wish : Type 0 where
  pub device : List ℕ
  pub link : List ℕ

abbrev pub short_link : List ℕ → Bool
short_link x = leb (length x) most_wanted

abbrev pub ok_wish : Wish → Bool
ok_wish w = ok_long w.device && short_link w.link

abbrev pub enc_wish : Wish → List ℕ
enc_wish w = enc_long w.device ++ enc_text w.link

abbrev pub one_wish : List ℕ → Parse Wish
one_wish bs = bind (one_long bs) (λ d r. bind (one_text short_link r) (λ l q. got (record { device = d; link = l }) q))

abbrev pub encode_wishes : List Wish → List ℕ
encode_wishes ws = encode_set enc_wish ws

abbrev pub decode_wishes : List ℕ → Option (List Wish)
decode_wishes bs = decode_set 1 most_wishes one_wish bs

-- ---- the devices, the first at position n

unfoldable pub namings_from : ℕ → List Wish → Checked Fault (List Naming)
namings_from n [] = ok []
namings_from n (w ∷ ws) = do
  d ← found (D.decode w.device) (of_record n device_bad)
  ns ← namings_from (suc n) ws
  ok (record { bytes_lent = w.device; device = d; link = w.link } ∷ ns)

unfoldable pub namings : List ℕ → Checked Fault (List Naming)
namings set = found (decode_wishes set) (of_set set_bad) >>= λ ws. namings_from 1 ws

-- ---- the checker, which has no target: the count is 1 for a text that it accepts, and 0 for any other

abbrev pub counted : Bool → ℕ
counted true = 1
counted false = 0

abbrev pub check_answer : List ℕ → Checked Fault (List Naming) → Answer
check_answer text (refused f) = refusal 0 f
check_answer text (ok ns) = acceptance 0 0 0 (counted (accepts ns text)) []

unfoldable pub check : List ℕ → List ℕ → Answer
check set text = check_answer text (namings set)

-- ---- the planner: the count is 1 for a plan, and 0 where it has none

abbrev pub plan_for : Bool → List Naming → Option (List ℕ)
plan_for true ns = Some (plan_text ns)
plan_for false ns = None

unfoldable pub plan_checked : List ℕ → ℕ → Checked Fault (Option (List ℕ))
plan_checked set room = require (leb most_text room) (of_set target_short) >> (namings set >>= λ ns. ok (plan_for (due ns) ns))

abbrev pub plan_answer : ℕ → Checked Fault (Option (List ℕ)) → Answer
plan_answer room (refused f) = refusal room f
plan_answer room (ok None) = acceptance room 0 0 0 []
plan_answer room (ok (Some text)) = acceptance room 0 0 1 text

unfoldable pub plan : List ℕ → ℕ → Answer
plan set room = plan_answer room (plan_checked set room)
