-- The third demand, on joined texts, as one claim about every list of texts and every list of cuts.
-- Assumes nothing.
use Rattle.std.specs.Prelude.{ℕ, ◌≤◌, ◌≡◌, ◌↔◌, List, length}
use Rattle.std.specs.Prelude.{Some}
use Rattle.lists.specs.Lists.{All}
use Rattle.lists.specs.Bytes.{Bytes}
use Rattle.lists.specs.Checked.{ok, Placed}
use Rattle.lists.specs.Sizes.{most_text, most_rules, fullest_outcome}
use Rattle.text.specs.Engine.{Engine}
use Rattle.text.specs.Reading.{rule_count, reads, read_text}
use Rattle.text.specs.Run.{run}
use Rattle.text.specs.Joined.{join, Joinable, Cuttable, Accepted, Job, texts, given, run_all, cuts, NoCrossing, jumps}

-- texts that may be joined ("Joined texts"): each accepted by itself, line ends where they meet, and the join within the sizes of a text
pub record Fit (E : Engine) (ts : List (List ℕ)) : Type 0 where
  pub joinable : Joinable ts
  pub accepted : All (Accepted E) ts
  pub bytes : length (join ts) ≤ most_text
  pub rules : rule_count (reads E.reader (join ts)) ≤ most_rules

pub record Demand3 (E : Engine) : Type 0 where
  -- their join is accepted
  pub join_accepted : (ts : List (List ℕ)) → Fit E ts → Accepted E (join ts)
  -- from any accepted record, beside any accepted device and with full room, one run of the join gives what the runs one after another give
  pub join_run : (js : List Job) → Fit E (texts js)
      → (dev out : List ℕ) {d : E.Device} {s : E.State} → Bytes out → E.device dev ≡ Some d → E.decode d out ≡ Some s
      → All (λ (j : Job). fullest_outcome ≤ j.room) js → (room : ℕ) → fullest_outcome ≤ room
      → given (run E (join (texts js)) dev out room) ≡ run_all E dev 0 0 0 out js
  -- an accepted text cut behind newlines that join nothing, whatever the list of its pieces, has only accepted pieces if and only if no jump, taken or not,
  -- crosses a cut
  pub cut_accepted : (t : List ℕ) (rs : List (Placed E.reader.Rule)) → read_text E.reader t ≡ ok rs
      → (ps : List (List ℕ)) → Cuttable ps → join ps ≡ t → All (Accepted E) ps ↔ NoCrossing (cuts 0 ps) (jumps E rs)
  -- and then running its pieces one after another gives what its own run gives
  pub cut_run : (t : List ℕ) (rs : List (Placed E.reader.Rule)) → read_text E.reader t ≡ ok rs
      → (js : List Job) → Cuttable (texts js) → join (texts js) ≡ t → NoCrossing (cuts 0 (texts js)) (jumps E rs)
      → (dev out : List ℕ) {d : E.Device} {s : E.State} → Bytes out → E.device dev ≡ Some d → E.decode d out ≡ Some s
      → All (λ (j : Job). fullest_outcome ≤ j.room) js → (room : ℕ) → fullest_outcome ≤ room
      → given (run E t dev out room) ≡ run_all E dev 0 0 0 out js
