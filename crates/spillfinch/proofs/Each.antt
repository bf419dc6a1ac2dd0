-- What is wanted of the runs of a set holds of what calls of `spillfinch_run_each` write.
-- Assumes nothing.
use Prim.Native.Nat.{ℕ}
use mathlib.Core.Path.{◌≡◌, sym, ap, ◌∙◌, subst}
use mathlib.Core.List.{List}
use Rattle.std.specs.Prelude.{Some}
use Rattle.std.proofs.lemmas.Option.{same_Some}
use lib.ListN.{length}
use Rattle.lists.specs.Lists.{nth}
use Rattle.lists.specs.Bytes.{Bytes}
use Rattle.lists.specs.Sizes.{fullest_outcome}
use Rattle.sets.specs.Lent.{Lent, decode_lent}
use Rattle.numbers.specs.Numbers.{most_numbers}
use Rattle.each.specs.Wanted.{part_of}
use Rattle.each.proofs.Each.{wanted}
use Rattle.spillfinch.specs.Exports.{RunGives}
use Rattle.spillfinch.specs.Joined.{number_in}
use Rattle.spillfinch.specs.Contested.{count_in}
use Rattle.spillfinch.specs.Each.{EachCall, target_in, answer_in, RunsAlone, EachRuns}

module _ (text sheet : List ℕ) (by : Bytes sheet) where
  runs_alone : (c : EachCall text sheet) → RunsAlone text sheet c
  runs_alone c =
      let ((w, t), a) = c.gives in
      let e = wanted.each_alone text c.set sheet (length c.targets) (length c.answers) c.bytes by (sym (ap number_in w) ∙ c.accepted) in
      record {
        lents = e.lents;
        held = e.held;
        counted = ap count_in w ∙ e.counted;
        alone = λ k l h. let one = e.alone k l h in
            (ap (part_of most_numbers k) a ∙ one.answer, ap (part_of fullest_outcome k) t ∙ one.target);
      }

  -- by the records that the set holds
  alone_in : (c : EachCall text sheet) (ls : List Lent) → decode_lent c.set ≡ Some ls → (k : ℕ) (l : Lent) → nth k ls ≡ Some l
      → RunGives text l.device l.outcome sheet fullest_outcome (answer_in c k) (target_in c k)
  alone_in c ls e k l h =
      let r = runs_alone c in
      r.alone k l (subst (λ (xs : List Lent). nth k xs ≡ Some l) (same_Some ls r.lents (sym e ∙ r.held)) h)

pub each_runs_lem : EachRuns
each_runs_lem = record {
  runs_alone = runs_alone;
  anywhere = λ text sheet by c d ls ms e f j k l g h.
      let (a, t) = alone_in text sheet by c ls e j l g in
      let (b, u) = alone_in text sheet by d ms f k l h in
      (t ∙ sym u, a ∙ sym b);
}
