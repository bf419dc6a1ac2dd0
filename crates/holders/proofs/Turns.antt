-- Turns of the walk over the links of a record.
-- Assumes nothing.
use Prim.Native.Nat.{ℕ, zero, suc, ◌+◌, ◌-◌, ◌≤◌, ◌<◌}
use mathlib.Core.Path.{◌≡◌, refl, sym, ap, ap₂, ◌∙◌, subst}
use mathlib.Core.Bool.{Bool, true, false}
use mathlib.Core.List.{List, [], ◌∷◌, ◌++◌, append_assoc, append-nil}
use native.Mathlib.Nat.{not-suc-le-zero}
use native.Mathlib.Omega.{arith}
use native.Mathlib.Numerals.{add-one}
use lib.IntN.{ℤ}
use lib.ListN.{length, take, drop, get_or, length-take}
use Rattle.lists.specs.Lists.{any}
use Rattle.lists.specs.Bytes.{Bytes, among, distinct}
use Rattle.lists.proofs.Moves.{length_part, bytes_drop}
use Rattle.splice.specs.Moves.{stored}
use Rattle.rows.specs.Entry.{size, name_len, rest_len, Placed}
use Rattle.rows.specs.Row.{Row, names}
use Rattle.rows.specs.declared.Entry.{Entry}
use Rattle.rows.specs.declared.Kind.TheVariants as kind
use Rattle.rows.proofs.Turns.{row_first, row-turn}
use Rattle.outcome_readers.proofs.Walk.{names-turn}
use Rattle.outcome.specs.State.{State}
use Rattle.contest.specs.Contest.{firsts, links_of, claims, rank, claimants}
use Rattle.contest.specs.Operation.{enc_listed}
use Rattle.claims.specs.Records.{states_in, Standing}
use Rattle.claims.specs.Claims.{ClaimsAre, as_claimant}
use Rattle.claims.specs.declared.Claims.{Claims}
use Rattle.claims.specs.declared.Claimant.{Claimant}
use Rattle.holders.specs.Lists.{row_of, rows_of, Naming, Going, Written}
use Rattle.holders.proofs.Names.{claimants-first, met-before, own_claim}
use Rattle.holders.proofs.Lists.{written_known, written_new, row_room, links-all, links-more}

-- the length of a link has 8 bits
name_short : (rec : List ℕ) (q : ℕ) (e : Entry) → Placed kind.Text rec q e → Bytes rec → length (take (e.rest - e.name) (drop e.name rec)) < 256
unfolding name_len
name_short rec q e is by = omega (arith, length_part rec e.name e.rest (omega (arith, is.end, is.within)), is.middle, bytes_drop q rec by 0)

-- the record with index i, of which some links were met and `left` are to come
pub record Turning (set rec : List ℕ) (i : ℕ) (priority : ℤ) (t : List ℕ) (end names' q left : ℕ) : Type 0 where
  pub state : State
  pub here : drop i (states_in set) ≡ state ∷ drop (suc i) (states_in set)
  pub ranked : priority ≡ rank state
  pub apart : distinct state.links ≡ true
  pub seen : List (List ℕ)
  pub links : state.links ≡ seen ++ names kind.Text left (drop q rec)
  pub within : q ≤ length rec
  pub row : Row kind.Text left (drop q rec)
  pub written : Written set (links_of (take i (states_in set)) ++ seen) t end names'

pub turning_first : (set rec : List ℕ) (i : ℕ) (t : List ℕ) (end names' : ℕ) (r : Claims) (s : State) → drop i (states_in set) ≡ s ∷ drop (suc i) (states_in set)
    → ClaimsAre rec s r → Written set (links_of (take i (states_in set))) t end names' → Turning set rec i r.priority t end names' r.links r.count
turning_first set rec i t end names' r s d c w = record {
  state = s;
  here = d;
  ranked = c.priority;
  apart = c.apart;
  seen = [];
  links = sym c.named;
  within = c.within;
  row = c.row;
  written = subst (λ (xs : List (List ℕ)). Written set xs t end names') (sym (append-nil (links_of (take i (states_in set))))) w;
}

pub turning_last : (set rec : List ℕ) (i : ℕ) (priority : ℤ) (t : List ℕ) (end names' q left : ℕ) → Turning set rec i priority t end names' q left → left ≡ 0
    → Written set (links_of (take (i + 1) (states_in set))) t end names'
turning_last set rec i priority t end names' q left w z =
    subst (λ (xs : List (List ℕ)). Written set xs t end names')
    (sym (links-more (states_in set) i w.state w.here ∙ ap (λ (xs : List (List ℕ)). links_of (take i (states_in set)) ++ xs) all)) w.written
  where
    all : w.state.links ≡ w.seen
    all = w.links ∙ ap (λ (m : ℕ). w.seen ++ names kind.Text m (drop q rec)) z ∙ append-nil w.seen

module _ (set rec : List ℕ) (i : ℕ) (priority : ℤ) (t : List ℕ) (end names' q left : ℕ) (w : Turning set rec i priority t end names' q left) (h : 0 < left) where
  pub turning_fits : size kind.Text (drop q rec) ≤ length (drop q rec)
  turning_fits = row_first kind.Text left (drop q rec) h w.row

  module _ (e : Entry) (is : Placed kind.Text rec q e) where
    abbrev x : List ℕ
    x = take (e.rest - e.name) (drop e.name rec)

    abbrev later : List (List ℕ)
    later = names kind.Text (left - 1) (drop e.end rec)

    -- the names of the claims that were met
    abbrev met : List (List ℕ)
    met = links_of (take i (states_in set)) ++ w.seen

    splits : w.state.links ≡ w.seen ++ (x ∷ later)
    splits = w.links ∙ ap (λ (xs : List (List ℕ)). w.seen ++ xs) (names-turn kind.Text rec q left e is h)

    -- it was met before only in a record before this one
    met-is : among x met ≡ any (claims x) (take i (states_in set))
    met-is = met-before x (take i (states_in set)) w.seen later (ap distinct (sym splits) ∙ w.apart)

    onward : (t' : List ℕ) (end' m : ℕ) → Written set (met ++ (x ∷ [])) t' end' m → Turning set rec i priority t' end' m e.end (left - 1)
    onward t' end' m v = record {
      state = w.state;
      here = w.here;
      ranked = w.ranked;
      apart = w.apart;
      seen = w.seen ++ (x ∷ []);
      links = splits ∙ sym (append_assoc w.seen (x ∷ []) later);
      within = is.within;
      row = row-turn kind.Text rec q left e is h w.row;
      written = subst (λ (xs : List (List ℕ)). Written set xs t' end' m) (append_assoc (links_of (take i (states_in set))) w.seen (x ∷ [])) v;
    }

    pub turning_known : any (claims x) (take i (states_in set)) ≡ true → (t' : List ℕ) (end' m : ℕ) → t' ≡ t → end' ≡ end → m ≡ names'
        → Turning set rec i priority t' end' m e.end (left - 1)
    turning_known k t' end' m b f g = rw (b, f, g) (onward t end names' (written_known set met x t end names' (met-is ∙ k) w.written))

    module _ (k : any (claims x) (take i (states_in set)) ≡ false) where
      pub turning_new : (t' : List ℕ) (end' m : ℕ) → t' ≡ stored t end (enc_listed (row_of set x)) → end' ≡ end + length (enc_listed (row_of set x)) → length t' ≡ length t
          → m ≡ names' + 1 → Turning set rec i priority t' end' m e.end (left - 1)
      turning_new t' end' m b f l g = rw g (onward t' end' (names' + 1) (written_new set met x (met-is ∙ k) t t' end end' names' w.written b f l))

      pub turning_room : (n : ℕ) (t₀ : List ℕ) → Going t₀ set n → length t ≡ length t₀ → end + length (enc_listed (row_of set x)) ≤ length t
      turning_room n t₀ g l =
          row_room set met x (met-is ∙ k) t end names' (later ++ links_of (drop (suc i) (states_in set))) (links_of (states_in set)) w.written whole (omega (arith, g.fits, l))
        where
          whole : links_of (states_in set) ≡ (met ++ (x ∷ [])) ++ (later ++ links_of (drop (suc i) (states_in set)))
          whole =
              links-all (states_in set) i w.state w.here
              ∙ ap (λ (xs : List (List ℕ)). (links_of (take i (states_in set)) ++ xs) ++ links_of (drop (suc i) (states_in set))) splits
              ∙ simp append_assoc

      pub turning_naming : (n p : ℕ) (t₀ : List ℕ) (first : Claimant) → Going t₀ set n → length t ≡ length t₀ → Bytes rec → i < n → Standing set p (drop (i + 1) (states_in set))
          → first.position ≡ i + 1 → first.priority ≡ priority → Naming t end set p n x first
      turning_naming n p t₀ first g l by u v a b = record {
        counted = g.counted;
        few = g.few;
        some = omega arith;
        upto = omega arith;
        standing = subst (λ (m : ℕ). Standing set p (drop m (states_in set))) (sym a) v;
        claimed = claimants-first x i (states_in set) w.state k w.here (own_claim x w.state w.seen later splits) (as_claimant first) same
            ∙ ap (λ (m : ℕ). as_claimant first ∷ claimants x (suc m) (drop m (states_in set))) (sym a);
        short = name_short rec q e is by;
        room = turning_room n t₀ g l;
      }
        where
          same : as_claimant first ≡ record { position = i + 1; priority = rank w.state }
          same = λ j. record { position = a j; priority = (b ∙ w.ranked) j }
