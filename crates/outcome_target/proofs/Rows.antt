-- Each row of a held record by one set of facts: its frame, its place, its count and its bytes.
-- Assumes nothing.
use Prim.Native.Nat.{ℕ, ◌+◌, ◌*◌, ◌≤◌}
use mathlib.Core.Path.{◌≡◌, refl, sym, ap, ◌∙◌}
use mathlib.Core.List.{List, ◌++◌}
use native.Mathlib.Omega.{arith}
use lib.ListN.{length, drop, length-append}
use Rattle.lists.specs.Lists.{cat}
use Rattle.bits.specs.Bits.{number_at}
use Rattle.entries.specs.Entry.{enc_text, Property, enc_prop}
use Rattle.entries.proofs.Heads.{place_of, width_of}
use Rattle.outcome.specs.Head.{Head, fields, header_size, header, head_of}
use Rattle.outcome.specs.State.{State, Run, enc_run, head_for}
use Rattle.outcome.specs.Change.{with_links, with_properties, with_tags, with_runs}
use Rattle.outcome_target.specs.Layout.{layout_of, start_of, end_of, moved_by, count_place, count_width, Rising}
use Rattle.outcome_target.specs.Held.{Held}
use Rattle.outcome_target.specs.Texts.{section_of, texts_in, with_texts}
use Rattle.outcome_target.specs.declared.Layout.{Layout}
use Rattle.outcome_target.specs.declared.Section.{Section}
use Rattle.outcome_target.specs.declared.Section.TheVariants as section
use Rattle.outcome_target.specs.declared.Texts.{Texts}
use Rattle.outcome_target.specs.declared.Texts.TheVariants as texts
use Rattle.outcome_target.proofs.Frames.{Frame, links-frame, properties-frame, tags-frame, runs-frame}
use Rattle.outcome_target.proofs.Facts.{held_number, held_head, held-rising, held-size, held-part, behind}

-- a row of entries, each written by `enc`
pub record RowOf (A : Type 0) (part : Section) (enc : A → List ℕ) (list : State → List A) (anew : State → List A → State) : Type 0 where
  pub number : ℕ
  pub frame : Frame (List A) number (λ l old new. moved_by l part old new)
  pub gets : (s : State) → frame.get s ≡ list s
  pub puts : (s : State) (xs : List A) → frame.put s xs ≡ anew s xs
  pub written : (xs : List A) → frame.bytes xs ≡ cat enc xs
  pub counts : (xs : List A) → frame.count xs ≡ length xs
  pub place : (h : Head) → place_of number (fields h) ≡ count_place part
  pub width : (h : Head) → width_of number (fields h) ≡ count_width part
  pub inside : count_place part + count_width part ≤ header_size * 8
  pub start : (s : State) → start_of (layout_of s) part ≡ header_size + length (frame.front s)
  pub end : (s : State) → end_of (layout_of s) part ≡ start_of (layout_of s) part + length (cat enc (list s))
  pub counted : (s : State) → head_of (header (head_for s)) ≡ head_for s → number_at (header (head_for s)) (count_place part) (count_width part) ≡ length (list s)

pub links-row : RowOf (List ℕ) section.Links enc_text (λ s. s.links) with_links
unfolding links-frame layout_of
links-row =
    record {
      number = 12;
      frame = links-frame;
      gets = λ s. refl;
      puts = λ s xs. refl;
      written = λ xs. refl;
      counts = λ xs. refl;
      place = λ h. refl;
      width = λ h. refl;
      inside = omega arith;
      start = λ s. simp length-append (omega arith);
      end = λ s. refl;
      counted = λ s e. ap (λ (h : Head). h.links) e;
    }

pub properties-row : RowOf Property section.Properties enc_prop (λ s. s.properties) with_properties
unfolding properties-frame layout_of
properties-row =
    record {
      number = 13;
      frame = properties-frame;
      gets = λ s. refl;
      puts = λ s xs. refl;
      written = λ xs. refl;
      counts = λ xs. refl;
      place = λ h. refl;
      width = λ h. refl;
      inside = omega arith;
      start = λ s. simp length-append (omega arith);
      end = λ s. refl;
      counted = λ s e. ap (λ (h : Head). h.properties) e;
    }

pub tags-row : RowOf (List ℕ) section.Tags enc_text (λ s. s.tags) with_tags
unfolding tags-frame layout_of
tags-row =
    record {
      number = 14;
      frame = tags-frame;
      gets = λ s. refl;
      puts = λ s xs. refl;
      written = λ xs. refl;
      counts = λ xs. refl;
      place = λ h. refl;
      width = λ h. refl;
      inside = omega arith;
      start = λ s. simp length-append (omega arith);
      end = λ s. refl;
      counted = λ s e. ap (λ (h : Head). h.tags) e;
    }

pub runs-row : RowOf Run section.Runs enc_run (λ s. s.runs) with_runs
unfolding runs-frame layout_of
runs-row =
    record {
      number = 15;
      frame = runs-frame;
      gets = λ s. refl;
      puts = λ s xs. refl;
      written = λ xs. refl;
      counts = λ xs. refl;
      place = λ h. refl;
      width = λ h. refl;
      inside = omega arith;
      start = λ s. simp length-append (omega arith);
      end = λ s. refl;
      counted = λ s e. ap (λ (h : Head). h.runs) e;
    }

pub texts-row : (list : Texts) → RowOf (List ℕ) (section_of list) enc_text (texts_in list) (with_texts list)
texts-row texts.Links = links-row
texts-row texts.Tags = tags-row

-- ---- places

pub start-end : (lay : Layout) (part : Section) → Rising lay → (start_of lay part ≤ end_of lay part) × (end_of lay part ≤ lay.end)
start-end lay section.Links r = (omega arith, omega arith)
start-end lay section.Properties r = (omega arith, omega arith)
start-end lay section.Tags r = (omega arith, omega arith)
start-end lay section.Runs r = (omega arith, omega arith)

module _ {A : Type 0} {part : Section} {enc : A → List ℕ} {list : State → List A} {anew : State → List A → State} (T : RowOf A part enc list anew)
    (n : ℕ) (l : List ℕ) (lay : Layout) (s : State) (w : Held n l lay s) where
  pub row-start : start_of lay part ≡ header_size + length (T.frame.front s)
  row-start = ap (λ (j : Layout). start_of j part) w.layout ∙ T.start s

  pub row-end : end_of lay part ≡ start_of lay part + length (cat enc (list s))
  row-end =
      ap (λ (j : Layout). end_of j part) w.layout
      ∙ T.end s
      ∙ ap (λ (i : ℕ). i + length (cat enc (list s))) (sym (ap (λ (j : Layout). start_of j part) w.layout))

  pub row_within : start_of lay part ≤ length l
  row_within = let (a, b) = start-end lay part (held-rising n l lay s w) in omega (arith, (held-size n l lay s w).1)

  pub row_count : number_at l (count_place part) (count_width part) ≡ length (list s)
  row_count = held_number n l lay s w (count_place part) (count_width part) T.inside ∙ T.counted s (held_head n l lay s w)

  pub row-bytes : drop (start_of lay part) l ≡ cat enc (list s) ++ behind n l lay s w T.frame
  row-bytes =
      held-part n l lay s w T.frame (start_of lay part) row-start
      ∙ ap (λ (x : List ℕ). x ++ behind n l lay s w T.frame) (T.written (T.frame.get s) ∙ ap (cat enc) (T.gets s))
