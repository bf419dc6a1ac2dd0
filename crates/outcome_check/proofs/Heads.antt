-- The header by the numbers that were counted.
-- Assumes nothing.
use Prim.Native.Nat.{ℕ, ◌≤◌, ◌<◌}
use mathlib.Core.Path.{◌≡◌, refl, sym, ap, ap₂, ◌∙◌}
use mathlib.Core.Bool.{Bool, true, false, ◌&&◌}
use mathlib.Core.List.{List, []}
use Rattle.std.specs.Prelude.{None, Some}
use lib.ListN.{length, take, drop}
use Rattle.entries.specs.Parse.{Parse, got, bad, bind, keep}
use Rattle.rows.proofs.Readers.{head_cut, head_whole}
use Rattle.outcome.specs.Head.{Head, header_size, closed_of, head_of}
use Rattle.outcome.specs.State.{State, ok_head, output_on, parts, apart, ended, decode}
use Rattle.outcome_check.specs.Counts.{Counted, ok_counts}
use Rattle.outcome_check.specs.declared.Counts.{Counts}

abbrev pub head_by : List ℕ → Counts → Head
head_by head c =
    record {
      edition = c.edition;
      closed = closed_of head;
      owner = c.owner;
      group = c.group;
      mode_set = c.mode_set;
      mode = c.mode;
      priority = (head_of head).priority;
      links = c.links;
      properties = c.properties;
      tags = c.tags;
      runs = c.runs;
      output = c.output;
      watch = c.watch;
      unused = c.unused;
    }

pub head_by_lem : (head : List ℕ) (c : Counts) → Counted head c → head_by head c ≡ head_of head
head_by_lem head c w =
    λ i.
    record {
      edition = w.edition i;
      closed = closed_of head;
      owner = w.owner i;
      group = w.group i;
      mode_set = w.mode_set i;
      mode = w.mode i;
      priority = (head_of head).priority;
      links = w.links i;
      properties = w.properties i;
      tags = w.tags i;
      runs = w.runs i;
      output = w.output i;
      watch = w.watch i;
      unused = w.unused i;
    }

-- ---- the record from its header on

module _ (k : ℕ) (l : List ℕ) where
  pub short_record : length l < header_size → decode k l ≡ None
  unfolding decode
  short_record h = rw (head_cut header_size l h)

  module _ (h : header_size ≤ length l) (c : Counts) (w : Counted (take header_size l) c) where
    pub bad-header : ok_counts c ≡ false → decode k l ≡ None
    unfolding decode
    bad-header e = rw (head_whole header_size l h, sym (ap ok_head (head_by_lem (take header_size l) c w)) ∙ e)

    pub from-header : ok_counts c ≡ true → decode k l ≡ ended (output_on k (head_of (take header_size l)) (drop header_size l))
    unfolding decode
    from-header e = rw (head_whole header_size l h, sym (ap ok_head (head_by_lem (take header_size l) c w)) ∙ e)

-- ---- at the end

pub ended_twice : (p : Parse State) (s : State) → p ≡ got s [] → apart s ≡ false → ended p ≡ None
ended_twice p s e a = rw (e, a, ended)

pub ended-sound : (p : Parse State) (s : State) → p ≡ got s [] → apart s ≡ true → ended p ≡ Some s
ended-sound p s e a = rw (e, a, ended)
