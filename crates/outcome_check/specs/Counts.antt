-- The numbers of an outcome record's header that its check needs.
-- Assumes nothing.
use Rattle.std.specs.Prelude.{ℕ, ◌≡◌, Bool, ◌&&◌, ◌||◌, not, List, leb, eqb}
use Rattle.outcome.specs.Head.{head_of}
use Rattle.outcome.specs.Content.{others_write}
use Rattle.outcome_check.specs.declared.Counts.{Counts}

pub record Counted (head : List ℕ) (c : Counts) : Type 0 where
  pub edition : c.edition ≡ (head_of head).edition
  pub owner : c.owner ≡ (head_of head).owner
  pub group : c.group ≡ (head_of head).group
  pub mode_set : c.mode_set ≡ (head_of head).mode_set
  pub mode : c.mode ≡ (head_of head).mode
  pub links : c.links ≡ (head_of head).links
  pub properties : c.properties ≡ (head_of head).properties
  pub tags : c.tags ≡ (head_of head).tags
  pub runs : c.runs ≡ (head_of head).runs
  pub output : c.output ≡ (head_of head).output
  pub watch : c.watch ≡ (head_of head).watch
  pub unused : c.unused ≡ (head_of head).unused

-- what they must be, as `ok_head` says
abbrev pub ok_counts : Counts → Bool
ok_counts c =
    eqb c.edition 2
    && (leb c.watch 2
    && (eqb c.unused 0
    && ((eqb c.mode_set 1 || eqb c.mode 0)
    && (not (others_write c.mode)
    && (leb c.links 16 && (leb c.properties 32 && (leb c.tags 16 && leb c.runs 16)))))))
