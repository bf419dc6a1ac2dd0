-- The header of a held record with a flag, the mode, the priority or watch put anew.
-- Assumes nothing.
use Prim.Native.Nat.{ℕ, ◌≤◌, ◌<◌}
use mathlib.Core.Path.{◌≡◌, refl, sym, ap, ◌∙◌}
use mathlib.Core.Bool.{Bool}
use mathlib.Core.List.{List, ◌++◌}
use native.Mathlib.Omega.{arith}
use lib.Dec.{eqb}
use lib.ListN.{length}
use Rattle.lists.specs.Bytes.{Bytes}
use Rattle.bits.specs.Bits.{number_at, put_at}
use Rattle.outcome.specs.Head.{Head}
use Rattle.outcome.specs.State.{State, ModeBits, head_for, body}
use Rattle.outcome.specs.Change.{with_mode, with_priority, with_watch}
use Rattle.outcome.proofs.Change.{closed_good, mode_good, priority_good, watch_good}
use Rattle.outcome_target.specs.Layout.{layout_of}
use Rattle.outcome_target.specs.Held.{Held}
use Rattle.outcome_target.specs.declared.Layout.{Layout}
use Rattle.outcome_target.proofs.Edits.{put-header}
use Rattle.outcome_target.proofs.Facts.{held_number, held_head}
use Rattle.outcome_target.proofs.Changes.{header-changed, held-header}
use Rattle.outcome_fields.specs.Fields.{flag_place, flag, shut, closed_by}
use Rattle.outcome_fields.specs.declared.Closable.{Closable}
use Rattle.outcome_fields.specs.declared.Closable.TheVariants.{Links, Tags, Runs, Owner, Group, Mode}

module _ (n : ℕ) (l : List ℕ) (lay : Layout) (s : State) (w : Held n l lay s) where
  -- ---- flags

  pub flag_read : (key : Closable) → eqb (number_at l (flag_place key) 1) 1 ≡ flag key s.closed
  flag_read Links = ap (λ (i : ℕ). eqb i 1) (held_number n l lay s w 4 1 (omega arith)) ∙ ap (λ (h : Head). h.closed.links) (held_head n l lay s w)
  flag_read Tags = ap (λ (i : ℕ). eqb i 1) (held_number n l lay s w 5 1 (omega arith)) ∙ ap (λ (h : Head). h.closed.tags) (held_head n l lay s w)
  flag_read Runs = ap (λ (i : ℕ). eqb i 1) (held_number n l lay s w 6 1 (omega arith)) ∙ ap (λ (h : Head). h.closed.runs) (held_head n l lay s w)
  flag_read Owner = ap (λ (i : ℕ). eqb i 1) (held_number n l lay s w 7 1 (omega arith)) ∙ ap (λ (h : Head). h.closed.owner) (held_head n l lay s w)
  flag_read Group = ap (λ (i : ℕ). eqb i 1) (held_number n l lay s w 8 1 (omega arith)) ∙ ap (λ (h : Head). h.closed.group) (held_head n l lay s w)
  flag_read Mode = ap (λ (i : ℕ). eqb i 1) (held_number n l lay s w 9 1 (omega arith)) ∙ ap (λ (h : Head). h.closed.mode) (held_head n l lay s w)

  module _ (b : Bytes l) (v : List ℕ) (k : length v ≡ length l) where
    pub flag-put : (key : Closable) → v ≡ put_at l (flag_place key) 1 1 → Held n v lay (closed_by key s)
    unfolding layout_of
    flag-put Links e = header-changed n l lay s w (closed_by Links s) (head_for s) 1 1 l v refl refl (closed_good n s w.good _) (omega arith) (held-header n l lay s w) b refl e k
    flag-put Tags e = header-changed n l lay s w (closed_by Tags s) (head_for s) 2 1 l v refl refl (closed_good n s w.good _) (omega arith) (held-header n l lay s w) b refl e k
    flag-put Runs e = header-changed n l lay s w (closed_by Runs s) (head_for s) 3 1 l v refl refl (closed_good n s w.good _) (omega arith) (held-header n l lay s w) b refl e k
    flag-put Owner e = header-changed n l lay s w (closed_by Owner s) (head_for s) 4 1 l v refl refl (closed_good n s w.good _) (omega arith) (held-header n l lay s w) b refl e k
    flag-put Group e = header-changed n l lay s w (closed_by Group s) (head_for s) 5 1 l v refl refl (closed_good n s w.good _) (omega arith) (held-header n l lay s w) b refl e k
    flag-put Mode e = header-changed n l lay s w (closed_by Mode s) (head_for s) 6 1 l v refl refl (closed_good n s w.good _) (omega arith) (held-header n l lay s w) b refl e k

    -- ---- priority

    pub priority-put : (z : ℕ) → z < 4294967296 → v ≡ put_at l 35 32 z → Held n v lay (with_priority s z)
    unfolding layout_of
    priority-put z h e = header-changed n l lay s w (with_priority s z) (head_for s) 11 z l v refl refl (priority_good n s w.good z h) (omega arith) (held-header n l lay s w) b refl e k

    -- ---- watch

    pub watch_put : (z : ℕ) → z ≤ 2 → v ≡ put_at l 98 2 z → Held n v lay (with_watch s z)
    unfolding layout_of
    watch_put z h e = header-changed n l lay s w (with_watch s z) (head_for s) 17 z l v refl refl (watch_good n s w.good z h) (omega arith) (held-header n l lay s w) b refl e k

  -- ---- mode

  -- the header once the mode is marked
  abbrev marked : Head
  marked =
      let h = head_for s in
      record {
        edition = h.edition;
        closed = h.closed;
        owner = h.owner;
        group = h.group;
        mode_set = 1;
        mode = h.mode;
        priority = h.priority;
        links = h.links;
        properties = h.properties;
        tags = h.tags;
        runs = h.runs;
        output = h.output;
        watch = h.watch;
        unused = h.unused;
      }

  pub mode-put : (m : ℕ) → ModeBits m → (u v : List ℕ) → Bytes l → u ≡ put_at l 22 1 1 → Bytes u → v ≡ put_at u 23 12 m → length v ≡ length l → Held n v lay (with_mode s m)
  unfolding layout_of
  mode-put m h u v b e c f k =
      header-changed n l lay s w (with_mode s m) marked 10 m u v refl refl (mode_good n s w.good m h) (omega arith)
      (put-header (head_for s) marked 9 1 (length l) (s.output ++ body s) l u (omega arith) refl (held-header n l lay s w) b e)
      c refl f k
