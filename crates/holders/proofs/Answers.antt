-- What the contest gives back in each case.
-- Assumes nothing.
use Prim.Native.Nat.{ℕ, ◌≤◌, ◌<◌}
use mathlib.Core.Path.{◌≡◌, refl, sym, ap, ap₂, ◌∙◌, subst}
use mathlib.Core.List.{List, [], map}
use native.Mathlib.Omega.{arith}
use borrow.Author.Tests.{le-leb, lt-leb}
use lib.ListN.{length, take, replicate, length-map}
use lib.Seq.{take_all}
use Rattle.lists.specs.Lists.{All, cat}
use Rattle.lists.specs.Bytes.{Bytes}
use Rattle.lists.specs.Checked.{refused, ok}
use Rattle.lists.specs.Refusal.{target_short}
use Rattle.lists.proofs.Checked.{holds_at}
use Rattle.splice.specs.Moves.{padded}
use Rattle.splice.proofs.Laws.{clear_padded}
use Rattle.outcome.specs.State.{State}
use Rattle.sets.specs.Lent.{most_records}
use Rattle.sets.specs.Answer.{Fault, of_set, refusal, acceptance}
use Rattle.contest.specs.Contest.{firsts, links_of, contest}
use Rattle.contest.specs.Operation.{enc_listed, fullest_contest, states_of, contest_checked, contest_answer}
use Rattle.contest.proofs.Sizes.{Sized, contest-fits, states_few}
use Rattle.claims.specs.Records.{states_in, Standing}
use Rattle.claims.proofs.Records.{Whole, set-whole}
use Rattle.holders.specs.Lists.{row_of, rows_of, Going, Written, Listing}
use Rattle.holders.specs.declared.Progress.{Progress}

-- ---- the list

-- no record yet
pub listing_none : (set t : List ℕ) (n : ℕ) → Going t set n → t ≡ replicate (length t) 0 → Listing set t (record { next = 1; records = 0; end = 0; names = 0 })
listing_none set t n g z = record { standing = g.standing; written = record { bytes = z ∙ clear_padded (length t); ends = refl; counts = refl } }

pub going_same : (set t t₀ : List ℕ) (n : ℕ) → length t ≡ length t₀ → Going t₀ set n → Going t set n
going_same set t t₀ n e g = record { counted = g.counted; few = g.few; standing = g.standing; fits = omega (arith, e, g.fits) }

-- all records
module _ (set t : List ℕ) (n : ℕ) (r : Progress) (g : Going t set n) (w : Listing set t r) (e : r.records ≡ n) where
  all-records : take r.records (states_in set) ≡ states_in set
  all-records = take_all r.records (states_in set) (omega (arith, e, g.counted))

  all-written : Written set (links_of (states_in set)) t r.end r.names
  all-written = subst (λ (ss : List State). Written set (links_of ss) t r.end r.names) all-records w.written

  pub all-bytes : t ≡ padded (length t) (cat enc_listed (contest (states_in set)))
  unfolding contest
  all-bytes = all-written.bytes

  pub all_end : r.end ≡ length (cat enc_listed (contest (states_in set)))
  unfolding contest
  all_end = all-written.ends

  pub all-names : r.names ≡ length (contest (states_in set))
  unfolding contest
  all-names = all-written.counts ∙ sym (length-map (firsts (links_of (states_in set))) (row_of set))

-- ---- the answer

module _ (set : List ℕ) (room : ℕ) where
  pub contest-short : room < fullest_contest → contest_answer set room ≡ refusal room (of_set target_short)
  unfolding contest_answer contest_checked
  contest-short h = rw (lt-leb fullest_contest room h)

  module _ (h : fullest_contest ≤ room) where
    pub contest-refused : (f : Fault) → states_of set ≡ refused f → contest_answer set room ≡ refusal room f
    unfolding contest_answer contest_checked
    contest-refused f e = rw (le-leb fullest_contest room h, e)

    module _ (by : Bytes set) (ss : List State) (e : states_of set ≡ ok ss) where
      pub whole : Whole set
      whole = (set-whole set ss e).1

      same : states_in set ≡ ss
      same = (set-whole set ss e).0

      pub contest-size : length (cat enc_listed (contest (states_in set))) ≤ fullest_contest
      contest-size =
          let (sized, few) = holds_at (λ (ss : List State). All Sized ss × (length ss ≤ 64)) e (states_few set by) in
          subst (λ (ss : List State). length (cat enc_listed (contest ss)) ≤ fullest_contest) (sym same) (contest-fits ss few sized)

      pub contest-going : (t : List ℕ) (n : ℕ) → length t ≡ room → n ≡ length (states_in set) → Going t set n
      unfolding contest
      contest-going t n l c = record { counted = c; few = omega (arith, c, whole.few); standing = whole.standing; fits = omega (arith, contest-size, l, h) }

      pub contest-accepted : acceptance room 0 0 (length (contest (states_in set))) (cat enc_listed (contest (states_in set))) ≡ contest_answer set room
      unfolding contest_answer contest_checked
      contest-accepted =
          sym (rw (le-leb fullest_contest room h, e) (ap (λ (ss : List State). acceptance room 0 0 (length (contest ss)) (cat enc_listed (contest ss))) (sym same)))
