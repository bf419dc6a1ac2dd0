-- A planned rule reads as the two pairs that it was made of.
-- Assumes nothing.
use Prim.Native.Nat.{ℕ, ◌≤◌}
use mathlib.Core.Path.{◌≡◌, refl, sym, ap, ap₂, ◌∙◌, subst}
use mathlib.Core.Bool.{Bool, true, false, not, ◌&&◌, ◌||◌}
use mathlib.Core.List.{List, [], ◌∷◌, ◌++◌, map, append_assoc}
use Rattle.std.specs.Prelude.{Some}
use native.Mathlib.Omega.{arith}
use lib.Dec.{eqb, leb}
use lib.ListN.{length, length-append}
use borrow.Author.Tests.{eqb-true, le-leb}
use Rattle.lists.specs.Lists.{all, is_some}
use Rattle.lists.specs.Bytes.{same_bytes, holds}
use Rattle.lists.specs.Runs.{span}
use Rattle.lists.specs.Items.{before}
use Rattle.lists.specs.Checked.{ok}
use Rattle.lists.specs.Sizes.{most_line}
use Rattle.lists.specs.Quoted.{bytes}
use Rattle.lists.proofs.Tests.{and_both, neither}
use Rattle.lists.proofs.Lists.{all_split}
use Rattle.pattern.specs.Pattern as pattern
use Rattle.pattern.specs.Pattern.{is_plain, is_special}
use Rattle.pattern.proofs.Plain.{plain_well_formed}
use Rattle.template.specs.Template as template
use Rattle.template.specs.Template.{Piece, written, pieces, piece_at}
use Rattle.template.proofs.Pieces.{pieces_end, pieces_at}
use Rattle.rules.specs.Key.{DEVPATH, SYMLINK, equal, assign, rows, row_in, row_of}
use Rattle.rules.specs.Pair.{Pair, Rule}
use Rattle.rules.specs.Reading.{read_key, read_argument, read_op, quoted, unescape, read_plain, read_value, sound, read_pair, read_pairs, read_line}
use Rattle.text.specs.Engine.{rule}
use Rattle.text.specs.Lines.{blank, plain, is_slash, stage_of}
use Rattle.text.proofs.Places.{is_in_line, stage_ruled}
use Rattle.engine.specs.Assign.{link_byte}
use Rattle.plan.specs.Plan.{plan_byte, plan_rule}

-- ---- bytes of a class

-- a byte that is not of a class is no byte of that class
pub not_in : (p : ℕ → Bool) (n : ℕ) → p n ≡ false → (b : ℕ) → p b ≡ true → eqb b n ≡ false
not_in p n f b h = at (eqb b n) refl
  where
    at : (t : Bool) → eqb b n ≡ t → eqb b n ≡ false
    at false e = e
    at true e = let w = eqb-true b n e in let z : ◌≡◌ {A = Bool} true false = sym h ∙ ap p w ∙ f in let y : ◌≡◌ {A = ℕ} 0 1 = cc in absurd (omega arith)

pub class_all : (p q : ℕ → Bool) → ((b : ℕ) → p b ≡ true → q b ≡ true) → (v : List ℕ) → all p v ≡ true → all q v ≡ true
class_all p q f [] h = refl
class_all p q f (b ∷ v) h = let (a, c) = and_both (p b) (all p v) h in ap₂ ◌&&◌ (f b a) (class_all p q f v c)

-- it stands nowhere in such bytes
pub class_without : (p : ℕ → Bool) (n : ℕ) → p n ≡ false → (v : List ℕ) → all p v ≡ true → holds n v ≡ false
class_without p n f [] h = refl
class_without p n f (b ∷ v) h = let (a, c) = and_both (p b) (all p v) h in ap₂ ◌||◌ (not_in p n f b a) (class_without p n f v c)

pub holds-append : (n : ℕ) (u v : List ℕ) → holds n u ≡ false → holds n v ≡ false → holds n (u ++ v) ≡ false
holds-append n [] v h k = k
holds-append n (b ∷ u) v h k = let (a, c) = neither (eqb b n) (holds n u) h in ap₂ ◌||◌ a (holds-append n u v c k)

pub without_all : (c : ℕ) (v : List ℕ) → holds c v ≡ false → all (λ x. not (eqb x c)) v ≡ true
without_all c [] h = refl
without_all c (b ∷ v) h = let (p, q) = neither (eqb b c) (holds c v) h in ap₂ ◌&&◌ (ap not p) (without_all c v q)

-- ---- a value without marks and backslashes

quoted-plain : (v rest : List ℕ) → holds 34 v ≡ false → holds 92 v ≡ false → quoted false (v ++ (34 ∷ rest)) ≡ Some (record { value = v; rest = rest })
unfolding quoted
quoted-plain [] rest h k = refl
quoted-plain (b ∷ v) rest h k =
    let (p, q) = neither (eqb b 34) (holds 34 v) h in
    let (r, s) = neither (eqb b 92) (holds 92 v) k in
    rw (p, r, quoted-plain v rest q s)

unescape-plain : (v : List ℕ) → holds 92 v ≡ false → unescape v ≡ v
unfolding unescape
unescape-plain [] h = refl
unescape-plain (b ∷ v) h =
    let (r, s) = neither (eqb b 92) (holds 92 v) h in
    rw (r, unescape-plain v s)

value_read : (v rest : List ℕ) → holds 34 v ≡ false → holds 92 v ≡ false → length v ≤ 256 → read_value (34 ∷ (v ++ (34 ∷ rest))) ≡ ok (record { value = v; rest = rest })
unfolding read_value read_plain
value_read v rest h k l = rw (quoted-plain v rest h k, unescape-plain v k, le-leb (length v) 256 l)

-- ---- the two pairs

abbrev pub path_pair : List ℕ → Pair
path_pair v = record { key = DEVPATH; argument = []; op = equal; value = v }

abbrev pub link_pair : List ℕ → Pair
link_pair v = record { key = SYMLINK; argument = []; op = assign; value = v }

module _ (v rest : List ℕ) (h : holds 34 v ≡ false) (k : holds 92 v ≡ false) (l : length v ≤ 256) where
  path_read : pattern.well_formed v ≡ true → read_pair (bytes "DEVPATH==\"" ++ (v ++ (34 ∷ 44 ∷ rest))) ≡ ok (record { value = path_pair v; rest = 44 ∷ rest })
  unfolding bytes read_pair read_key read_argument read_op span rows row_in row_of same_bytes sound
  path_read w = rw (value_read v (44 ∷ rest) h k l, w)

link_read : (v : List ℕ) → holds 34 v ≡ false → holds 92 v ≡ false → length v ≤ 256 → template.well_formed v ≡ true
    → read_pair (bytes "SYMLINK=\"" ++ (v ++ bytes "\"")) ≡ ok (record { value = link_pair v; rest = [] })
unfolding bytes read_pair read_key read_argument read_op span rows row_in row_of same_bytes sound
link_read v h k l w = rw (value_read v [] h k l, w)

-- ---- a path as a pattern, a link as a template

pub path-plain : (v : List ℕ) → all plan_byte v ≡ true → is_plain v ≡ true
path-plain v h =
    class_all plan_byte (λ b. not (is_special b))
    (λ b i. ap not (ap₂ ◌||◌ (ap₂ ◌||◌ (ap₂ ◌||◌ (not_in plan_byte 42 refl b i) (not_in plan_byte 63 refl b i)) (not_in plan_byte 91 refl b i)) (not_in plan_byte 124 refl b i))) v h

written-piece : (b : ℕ) (bs : List ℕ) → link_byte b ≡ true → piece_at b bs ≡ Some (record { value = written b; more = 0 })
written-piece b bs h = rw (not_in link_byte 36 refl b h, not_in link_byte 37 refl b h)

-- every byte is written as it stands
pub link_pieces : (v : List ℕ) → all link_byte v ≡ true → pieces v ≡ Some (map written v)
link_pieces [] h = pieces_end
link_pieces (b ∷ v) h =
    let (p, q) = and_both (link_byte b) (all link_byte v) h in
    pieces_at b v (record { value = written b; more = 0 }) (written-piece b v p) ∙ ap (before (written b)) (link_pieces v q)

link_well_formed : (v : List ℕ) → all link_byte v ≡ true → template.well_formed v ≡ true
unfolding template.well_formed
link_well_formed v h = ap is_some (link_pieces v h)

-- ---- the line

abbrev pub rule_of : List ℕ → List ℕ → Rule
rule_of path link = path_pair path ∷ link_pair link ∷ []

module _ (path link : List ℕ) (p : all plan_byte path ≡ true) (m : length path ≤ 128) (x : all link_byte link ≡ true) (n : length link ≤ 128) where
  abbrev behind : List ℕ
  behind = bytes "SYMLINK=\"" ++ (link ++ bytes "\"")

  rule-bytes : plan_rule path link ≡ bytes "DEVPATH==\"" ++ (path ++ (34 ∷ 44 ∷ behind))
  unfolding bytes plan_rule
  rule-bytes = refl

  -- a byte of neither stands in the rule only where it is one of the other bytes
  rule-without : (b : ℕ) → plan_byte b ≡ false → link_byte b ≡ false → holds b (bytes "DEVPATH==\"") ≡ false → holds b (bytes "\",SYMLINK=\"") ≡ false → holds b (bytes "\"") ≡ false
      → holds b (plan_rule path link) ≡ false
  unfolding plan_rule
  rule-without b f g h i j =
      let u : List ℕ = link ++ bytes "\"" in
      let v : List ℕ = bytes "\",SYMLINK=\"" ++ u in
      holds-append b (bytes "DEVPATH==\"") (path ++ v) h
      (holds-append b path v (class_without plan_byte b f path p)
      (holds-append b (bytes "\",SYMLINK=\"") u i (holds-append b link (bytes "\"") (class_without link_byte b g link x) j)))

  pub rule-length : length (plan_rule path link) ≤ 278
  unfolding bytes plan_rule
  rule-length =
      omega (arith, length-append path (bytes "\",SYMLINK=\"" ++ (link ++ bytes "\"")), length-append link (bytes "\""))

  pub rule-line : holds 10 (plan_rule path link) ≡ false
  unfolding bytes
  rule-line = rule-without 10 refl refl refl refl refl

  -- its last byte is a mark, so it joins nothing
  pub rule-closed : is_slash (stage_of blank (plan_rule path link)) ≡ false
  unfolding bytes stage_of plan_rule
  rule-closed =
      let w : List ℕ = bytes "EVPATH==\"" ++ (path ++ (bytes "\",SYMLINK=\"" ++ link)) in
      let e : plan_rule path link ≡ 68 ∷ (w ++ (34 ∷ [])) = simp append_assoc refl in
      let h : all is_in_line (68 ∷ (w ++ (34 ∷ []))) ≡ true = subst (λ (l : List ℕ). all is_in_line l ≡ true) e (without_all 10 (plan_rule path link) rule-line) in
      ap (λ (l : List ℕ). is_slash (stage_of blank l)) e
      ∙ ap is_slash (stage_ruled plain w 34 tt (all_split is_in_line w (34 ∷ []) (and_both (is_in_line 68) (all is_in_line (w ++ (34 ∷ []))) h).1).0 refl)

  rule-sized : (leb (length (plan_rule path link)) most_line && not (holds 0 (plan_rule path link))) ≡ true
  unfolding bytes
  rule-sized = ap₂ ◌&&◌ (le-leb (length (plan_rule path link)) 1024 (omega (arith, rule-length))) (ap not (rule-without 0 refl refl refl refl refl))

  pub rule_read_lem : read_line (plan_rule path link) ≡ rule (rule_of path link)
  unfolding read_line read_pairs span bytes
  rule_read_lem =
      rw (rule-sized, rule-bytes)
      (rw (
        path_read path behind (class_without plan_byte 34 refl path p) (class_without plan_byte 92 refl path p) (omega arith) (plain_well_formed path (path-plain path p)),
        link_read link (class_without link_byte 34 refl link x) (class_without link_byte 92 refl link x) (omega arith) (link_well_formed link x),
      ))
