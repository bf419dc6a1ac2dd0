-- The parts of a record, each between what stands before it and what stands behind it.
-- Assumes nothing.
use Prim.Native.Nat.{ℕ, ◌+◌, ◌-◌, ◌<◌}
use mathlib.Core.Path.{◌≡◌, refl}
use mathlib.Core.List.{List, [], ◌∷◌, ◌++◌, append_assoc, append-nil}
use native.Mathlib.Omega.{arith}
use lib.ListN.{length}
use Rattle.lists.specs.Lists.{cat}
use Rattle.entries.specs.Entry.{enc_text, Property, enc_prop}
use Rattle.entries.proofs.Heads.{with_number}
use Rattle.outcome.specs.Head.{fields, header_size, header}
use Rattle.outcome.specs.State.{State, Run, enc_run, head_for, body, encode}
use Rattle.outcome.specs.Change.{with_output, with_owner, with_group, with_links, with_properties, with_tags, with_runs}
use Rattle.outcome_target.specs.Layout.{layout_of, moved_by, all_moved}
use Rattle.outcome_target.specs.declared.Layout.{Layout}
use Rattle.outcome_target.specs.declared.Section.TheVariants as section

-- a part that the header's field i counts
pub record Frame (X : Type 0) (i : ℕ) (move : Layout → ℕ → ℕ → Layout) : Type 0 where
  pub get : State → X
  pub put : State → X → State
  pub bytes : X → List ℕ
  pub count : X → ℕ
  pub front : State → List ℕ
  pub back : State → List ℕ
  pub field : i < 19
  pub same : (s : State) → put s (get s) ≡ s
  pub laid : (s : State) (x : X) → encode (put s x) ≡ header (head_for (put s x)) ++ (front s ++ (bytes x ++ back s))
  pub counted : (s : State) (x : X) → fields (head_for (put s x)) ≡ with_number i (count x) (fields (head_for s))
  pub moves : (s : State) (x : X) (old new : ℕ) → length (bytes x) + old ≡ length (bytes (get s)) + new → move (layout_of s) old new ≡ layout_of (put s x)

-- ---- the places, in numbers; h bytes stand before the owner

-- the links begin at a, and the rows of links, properties, tags and runs take so many bytes
abbrev laid_at : ℕ → ℕ → ℕ → ℕ → ℕ → Layout
laid_at a l p t r = record { links = a; properties = a + l; tags = a + l + p; runs = a + l + p + t; end = a + l + p + t + r }

-- a part before the links: they begin at a, and then at b
pub move_all : (a b l p t r old new : ℕ) → b + old ≡ a + new
    → all_moved (laid_at a l p t r) old new ≡ laid_at b l p t r
move_all a b l p t r old new e =
    let links : a + new - old ≡ b = omega arith in
    let properties : a + l + new - old ≡ b + l = omega arith in
    let tags : a + l + p + new - old ≡ b + l + p = omega arith in
    let runs : a + l + p + t + new - old ≡ b + l + p + t = omega arith in
    let end : a + l + p + t + r + new - old ≡ b + l + p + t + r = omega arith in
    λ i. record { links = links i; properties = properties i; tags = tags i; runs = runs i; end = end i }

pub move-links : (h o g l p t r x old new : ℕ) → x + old ≡ l + new
    → moved_by (laid_at (h + o + g) l p t r) section.Links old new ≡ laid_at (h + o + g) x p t r
move-links h o g l p t r x old new e =
    let properties : h + o + g + l + new - old ≡ h + o + g + x = omega arith in
    let tags : h + o + g + l + p + new - old ≡ h + o + g + x + p = omega arith in
    let runs : h + o + g + l + p + t + new - old ≡ h + o + g + x + p + t = omega arith in
    let end : h + o + g + l + p + t + r + new - old ≡ h + o + g + x + p + t + r = omega arith in
    λ i. record { links = h + o + g; properties = properties i; tags = tags i; runs = runs i; end = end i }

pub move-properties : (h o g l p t r x old new : ℕ) → x + old ≡ p + new
    → moved_by (laid_at (h + o + g) l p t r) section.Properties old new ≡ laid_at (h + o + g) l x t r
move-properties h o g l p t r x old new e =
    let tags : h + o + g + l + p + new - old ≡ h + o + g + l + x = omega arith in
    let runs : h + o + g + l + p + t + new - old ≡ h + o + g + l + x + t = omega arith in
    let end : h + o + g + l + p + t + r + new - old ≡ h + o + g + l + x + t + r = omega arith in
    λ i. record { links = h + o + g; properties = h + o + g + l; tags = tags i; runs = runs i; end = end i }

pub move-tags : (h o g l p t r x old new : ℕ) → x + old ≡ t + new
    → moved_by (laid_at (h + o + g) l p t r) section.Tags old new ≡ laid_at (h + o + g) l p x r
move-tags h o g l p t r x old new e =
    let runs : h + o + g + l + p + t + new - old ≡ h + o + g + l + p + x = omega arith in
    let end : h + o + g + l + p + t + r + new - old ≡ h + o + g + l + p + x + r = omega arith in
    λ i. record { links = h + o + g; properties = h + o + g + l; tags = h + o + g + l + p; runs = runs i; end = end i }

pub move-runs : (h o g l p t r x old new : ℕ) → x + old ≡ r + new
    → moved_by (laid_at (h + o + g) l p t r) section.Runs old new ≡ laid_at (h + o + g) l p t x
move-runs h o g l p t r x old new e =
    let end : h + o + g + l + p + t + r + new - old ≡ h + o + g + l + p + t + x = omega arith in
    λ i. record { links = h + o + g; properties = h + o + g + l; tags = h + o + g + l + p; runs = h + o + g + l + p + t; end = end i }

-- ---- the parts

unfoldable pub output_frame : Frame (List ℕ) 16 all_moved
unfolding encode layout_of
output_frame =
    record {
      get = λ s. s.output;
      put = with_output;
      bytes = λ x. x;
      count = length;
      front = λ s. [];
      back = λ s. body s;
      field = omega arith;
      same = λ s. refl;
      laid = λ s x. refl;
      counted = λ s x. refl;
      moves = λ s x old new e. move_all (header_size + length s.output + length s.owner + length s.group)
          (header_size + length x + length s.owner + length s.group) (length (cat enc_text s.links)) (length (cat enc_prop s.properties))
          (length (cat enc_text s.tags)) (length (cat enc_run s.runs)) old new (omega arith);
    }

unfoldable pub owner-frame : Frame (List ℕ) 7 all_moved
unfolding encode layout_of
owner-frame =
    record {
      get = λ s. s.owner;
      put = with_owner;
      bytes = λ x. x;
      count = length;
      front = λ s. s.output;
      back = λ s. s.group ++ (cat enc_text s.links ++ (cat enc_prop s.properties ++ (cat enc_text s.tags ++ cat enc_run s.runs)));
      field = omega arith;
      same = λ s. refl;
      laid = λ s x. refl;
      counted = λ s x. refl;
      moves = λ s x old new e. move_all (header_size + length s.output + length s.owner + length s.group)
          (header_size + length s.output + length x + length s.group) (length (cat enc_text s.links)) (length (cat enc_prop s.properties))
          (length (cat enc_text s.tags)) (length (cat enc_run s.runs)) old new (omega arith);
    }

unfoldable pub group-frame : Frame (List ℕ) 8 all_moved
unfolding encode layout_of
group-frame =
    record {
      get = λ s. s.group;
      put = with_group;
      bytes = λ x. x;
      count = length;
      front = λ s. s.output ++ s.owner;
      back = λ s. cat enc_text s.links ++ (cat enc_prop s.properties ++ (cat enc_text s.tags ++ cat enc_run s.runs));
      field = omega arith;
      same = λ s. refl;
      laid = λ s x. simp append_assoc;
      counted = λ s x. refl;
      moves = λ s x old new e. move_all (header_size + length s.output + length s.owner + length s.group)
          (header_size + length s.output + length s.owner + length x) (length (cat enc_text s.links)) (length (cat enc_prop s.properties))
          (length (cat enc_text s.tags)) (length (cat enc_run s.runs)) old new (omega arith);
    }

unfoldable pub links-frame : Frame (List (List ℕ)) 12 (λ l old new. moved_by l section.Links old new)
unfolding encode layout_of
links-frame =
    record {
      get = λ s. s.links;
      put = with_links;
      bytes = cat enc_text;
      count = length;
      front = λ s. s.output ++ (s.owner ++ s.group);
      back = λ s. cat enc_prop s.properties ++ (cat enc_text s.tags ++ cat enc_run s.runs);
      field = omega arith;
      same = λ s. refl;
      laid = λ s x. simp append_assoc;
      counted = λ s x. refl;
      moves = λ s x old new e. move-links (header_size + length s.output) (length s.owner) (length s.group) (length (cat enc_text s.links)) (length (cat enc_prop s.properties)) (length (cat enc_text s.tags)) (length (cat enc_run s.runs)) (length (cat enc_text x)) old new e;
    }

unfoldable pub properties-frame : Frame (List Property) 13 (λ l old new. moved_by l section.Properties old new)
unfolding encode layout_of
properties-frame =
    record {
      get = λ s. s.properties;
      put = with_properties;
      bytes = cat enc_prop;
      count = length;
      front = λ s. s.output ++ (s.owner ++ (s.group ++ cat enc_text s.links));
      back = λ s. cat enc_text s.tags ++ cat enc_run s.runs;
      field = omega arith;
      same = λ s. refl;
      laid = λ s x. simp append_assoc;
      counted = λ s x. refl;
      moves = λ s x old new e. move-properties (header_size + length s.output) (length s.owner) (length s.group) (length (cat enc_text s.links)) (length (cat enc_prop s.properties)) (length (cat enc_text s.tags)) (length (cat enc_run s.runs)) (length (cat enc_prop x)) old new e;
    }

unfoldable pub tags-frame : Frame (List (List ℕ)) 14 (λ l old new. moved_by l section.Tags old new)
unfolding encode layout_of
tags-frame =
    record {
      get = λ s. s.tags;
      put = with_tags;
      bytes = cat enc_text;
      count = length;
      front = λ s. s.output ++ (s.owner ++ (s.group ++ (cat enc_text s.links ++ cat enc_prop s.properties)));
      back = λ s. cat enc_run s.runs;
      field = omega arith;
      same = λ s. refl;
      laid = λ s x. simp append_assoc;
      counted = λ s x. refl;
      moves = λ s x old new e. move-tags (header_size + length s.output) (length s.owner) (length s.group) (length (cat enc_text s.links)) (length (cat enc_prop s.properties)) (length (cat enc_text s.tags)) (length (cat enc_run s.runs)) (length (cat enc_text x)) old new e;
    }

unfoldable pub runs-frame : Frame (List Run) 15 (λ l old new. moved_by l section.Runs old new)
unfolding encode layout_of
runs-frame =
    record {
      get = λ s. s.runs;
      put = with_runs;
      bytes = cat enc_run;
      count = length;
      front = λ s. s.output ++ (s.owner ++ (s.group ++ (cat enc_text s.links ++ (cat enc_prop s.properties ++ cat enc_text s.tags))));
      back = λ s. [];
      field = omega arith;
      same = λ s. refl;
      laid = λ s x. simp (append_assoc, append-nil);
      counted = λ s x. refl;
      moves = λ s x old new e. move-runs (header_size + length s.output) (length s.owner) (length s.group) (length (cat enc_text s.links)) (length (cat enc_prop s.properties)) (length (cat enc_text s.tags)) (length (cat enc_run s.runs)) (length (cat enc_run x)) old new e;
    }
