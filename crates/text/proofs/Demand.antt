-- The demand on joined texts holds of every engine that meets the laws.
-- Assumes nothing.
use Prim.Native.Nat.{ℕ, suc, ◌+◌, ◌≤◌}
use mathlib.Core.Path.{◌≡◌, sym, ap, subst}
use mathlib.Core.List.{List}
use Rattle.std.specs.Prelude.{Some}
use lib.ListN.{length}
use Rattle.lists.specs.Lists.{All}
use Rattle.lists.specs.Bytes.{Bytes}
use Rattle.lists.specs.Checked.{ok, Placed}
use Rattle.lists.specs.Sizes.{most_text, most_rules, fullest_outcome}
use Rattle.text.specs.Engine.{Engine}
use Rattle.text.specs.Reading.{rule_count, reads, read_text}
use Rattle.text.specs.Run.{run}
use Rattle.text.specs.Joined.{join, Cuttable, Job, texts, given, run_all, cuts, NoCrossing, jumps}
use Rattle.text.specs.Laws.{Laws}
use Rattle.text.specs.Demand.{Demand3}
use Rattle.text.proofs.Texts.{Parts, read}
use Rattle.text.proofs.Accept.{to_joinable, join_accepted}
use Rattle.text.proofs.Runs.{joined-run}
use Rattle.text.proofs.Cut.{cut_accepted}

module _ (E : Engine) (L : Laws E) where
  -- the pieces of a text that no jump crosses run as the text does
  pieces-run : (t : List ℕ) (rs : List (Placed E.reader.Rule)) → read_text E.reader t ≡ ok rs
      → (js : List Job) → Cuttable (texts js) → join (texts js) ≡ t → NoCrossing (cuts 0 (texts js)) (jumps E rs)
      → (dev out : List ℕ) {d : E.Device} {s : E.State} → Bytes out → E.device dev ≡ Some d → E.decode d out ≡ Some s
      → All (λ (j : Job). fullest_outcome ≤ j.room) js → (room : ℕ) → fullest_outcome ≤ room
      → given (run E t dev out room) ≡ run_all E dev 0 0 0 out js
  pieces-run t rs e js j q k dev out by is at full room r =
      let p : Parts E (join (texts js)) = subst (Parts E) (sym q) (read E t rs e).parts in
      let a = (cut_accepted E L t rs e (texts js) j q).1 k in
      rw (← q) (joined-run E L js (to_joinable E (texts js) j) a p.short p.few dev out by is at full room r)

pub demand3 : (E : Engine) → Laws E → Demand3 E
demand3 E L = record {
  join_accepted = λ ts f. join_accepted E L ts f.joinable f.accepted f.bytes f.rules;
  join_run = λ js f dev out by is at rs room r. joined-run E L js f.joinable f.accepted f.bytes f.rules dev out by is at rs room r;
  cut_accepted = cut_accepted E L;
  cut_run = pieces-run E L;
}
