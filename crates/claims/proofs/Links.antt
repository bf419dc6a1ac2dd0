-- The links and the link priority of a record, where code reads them.
-- Assumes nothing.
use Prim.Native.Nat.{ℕ, ◌+◌, ◌-◌, ◌*◌, ◌≤◌, ◌<◌}
use mathlib.Core.Path.{◌≡◌, refl, sym, ap, ◌∙◌, subst}
use mathlib.Core.Bool.{Bool, true, false}
use mathlib.Core.List.{List, ◌++◌, map-id}
use Rattle.std.specs.Prelude.{Some}
use native.Mathlib.Omega.{arith}
use borrow.Author.Tests.{ltb-true, ltb-false}
use lib.Dec.{ltb}
use lib.ListN.{length, drop, length-append}
use mir.Syntax.{w32}
use mir.Val.{SFits, to_z, of_z}
use mir.Facts.{to_z-of_z}
use Rattle.lists.specs.Bytes.{Bytes}
use Rattle.bits.specs.Bits.{number_at}
use Rattle.bits.specs.Signed.{to_signed}
use Rattle.bits.proofs.Numbers.{number-front}
use Rattle.bits.proofs.Signed.{signed_low, signed_high}
use Rattle.entries.proofs.Entries.{text-laws}
use Rattle.rows.proofs.Readers.{text-reads, many-row, many-names}
use Rattle.outcome.specs.Head.{Head, header_size, header, head_of}
use Rattle.outcome.specs.Content.{ok_link}
use Rattle.outcome.specs.State.{State, Good, head_for, body, encode, decode}
use Rattle.outcome.proofs.Head.{header-length, head_there}
use Rattle.outcome.proofs.RoundTrip.{back, good_fit}
use Rattle.outcome_target.specs.Layout.{layout_of, start_of}
use Rattle.outcome_target.specs.declared.Section.TheVariants.{Links}
use Rattle.outcome_target.proofs.Rows.{links-row}
use Rattle.run_list.proofs.Rows.{record_row}
use Rattle.contest.specs.Contest.{rank}
use Rattle.claims.specs.declared.Claims.{Claims}
use Rattle.claims.specs.Claims.{ClaimsAre}

-- ---- 32 bits with a sign

pub signed-fits : (x : ℕ) → x < 4294967296 → SFits w32 (to_signed x)
signed-fits x h = at (ltb x 2147483648) refl
  where
    at : (t : Bool) → ltb x 2147483648 ≡ t → SFits w32 (to_signed x)
    at true e = let l = ltb-true x 2147483648 e in subst (SFits w32) (sym (signed_low x l)) (record { sfits = l })
    at false e =
        let l : 2147483648 ≤ x = ltb-false x 2147483648 e in
        let k : 4294967295 - x < 2147483648 = omega arith in
        subst (SFits w32) (sym (signed_high x l h)) (record { sfits = k })

pub signed_back : (x : ℕ) → x < 4294967296 → to_z w32 (of_z w32 (to_signed x)) ≡ to_signed x
signed_back x h = to_z-of_z {w = w32} {z = to_signed x} (signed-fits x h)

-- ---- a record

module _ (n : ℕ) (rec : List ℕ) (s : State) (by : Bytes rec) (is : decode n rec ≡ Some s) where
  good : Good n s
  good = (back n rec s by is).1

  head_is : head_of (header (head_for s)) ≡ head_for s
  head_is = head_there (head_for s) (good_fit n s good)

  field_is : (at k : ℕ) → at + k ≤ 104 → number_at rec at k ≡ number_at (header (head_for s)) at k
  unfolding encode
  field_is at k h =
      ap (λ (x : List ℕ). number_at x at k) (sym (back n rec s by is).0)
      ∙ number-front (header (head_for s)) (s.output ++ body s) at k (subst (λ (i : ℕ). at + k ≤ 8 * i) (sym (header-length (head_for s))) h)

  pub header_in : header_size ≤ length rec
  unfolding encode
  header_in = omega (arith, ap length (back n rec s by is).0, length-append (header (head_for s)) (s.output ++ body s), header-length (head_for s))

  pub rank-fits : SFits w32 (rank s)
  rank-fits = signed-fits s.priority good.priority

  pub priority-is : number_at rec 35 32 ≡ s.priority
  priority-is = field_is 35 32 (omega arith) ∙ ap (λ (h : Head). h.priority) head_is

  links_at : header_size + number_at rec 88 10 + number_at rec 10 6 + number_at rec 16 6 ≡ start_of (layout_of s) Links
  unfolding layout_of
  links_at =
      let output : number_at rec 88 10 ≡ length s.output = field_is 88 10 (omega arith) ∙ ap (λ (h : Head). h.output) head_is in
      let owner : number_at rec 10 6 ≡ length s.owner = field_is 10 6 (omega arith) ∙ ap (λ (h : Head). h.owner) head_is in
      let group : number_at rec 16 6 ≡ length s.group = field_is 16 6 (omega arith) ∙ ap (λ (h : Head). h.group) head_is in
      omega (arith, output, owner, group)

  pub claims_are : (r : Claims) → r.links ≡ header_size + number_at rec 88 10 + number_at rec 10 6 + number_at rec 16 6 → r.count ≡ number_at rec 67 5
      → r.priority ≡ rank s → ClaimsAre rec s r
  claims_are r l c p =
      let w = record_row links-row (text-laws ok_link) n rec s by is good.links.each r.links r.count (l ∙ links_at) c in
      record {
        within = w.inside;
        counted = w.counted;
        row = many-row (text-reads ok_link) r.count (drop r.links rec) s.links w.rest w.read;
        named = many-names (text-reads ok_link) (λ x. x) (λ bs. refl) r.count (drop r.links rec) s.links w.rest w.read ∙ map-id s.links;
        apart = good.links.apart;
        priority = p;
      }
