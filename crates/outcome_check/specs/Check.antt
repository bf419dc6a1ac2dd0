-- What the check of an outcome record answers.
-- Assumes nothing.
use Rattle.std.specs.Prelude.{ℕ, ◌≤◌, ◌≡◌, Bool, ◌&&◌, List, [], eqb, length, take, drop}
use Rattle.std.specs.Prelude.{Option, None, Some}
use Rattle.lists.specs.Bytes.{distinct}
use Rattle.bits.specs.Bits.{number_at}
use Rattle.entries.specs.Parse.{Parse, got, bind}
use Rattle.rows.specs.Row.{Row, names}
use Rattle.rows.specs.declared.Kind.TheVariants as kind
use Rattle.bits.specs.Fields.{flag_at}
use Rattle.outcome.specs.Head.{header_size, head_of}
use Rattle.outcome.specs.Content.{ok_owner, ok_output}
use Rattle.outcome.specs.State.{State, ok_run, one_sized, output_on, apart, ended}
use Rattle.outcome_check.specs.declared.Counts.{Counts}
use Rattle.outcome_target.specs.Layout.{layout_of}
use Rattle.outcome_target.specs.declared.Layout.{Layout}
use Rattle.outcome_check.specs.declared.HeadText.{HeadText}
use Rattle.outcome_check.specs.declared.HeadText.TheVariants as text

-- the test of a text whose length the header gives
abbrev pub ok_head_text : HeadText → List ℕ → Bool
ok_head_text text.Output x = ok_output x
ok_head_text text.Name x = ok_owner x

-- output, owner and group, one behind the other
abbrev pub front : Counts → List ℕ → Parse (List ℕ)
front c bs = bind (one_sized ok_output c.output bs) (λ x q. bind (one_sized ok_owner c.owner q) (λ o r. one_sized ok_owner c.group r))

-- the test of a run, by its head and its template
abbrev pub ok_run_of : ℕ → List ℕ → List ℕ → Bool
ok_run_of n head t = eqb (number_at head 15 1) 0 && ok_run n (record { builtin = flag_at head 0; place = number_at head 1 5; template = t })

-- rows of entries stand where the layout says
pub record Standing (l : List ℕ) (c : Counts) (lay : Layout) : Type 0 where
  pub links_in : lay.links ≤ length l
  pub links : Row kind.Text c.links (drop lay.links l)
  pub properties_in : lay.properties ≤ length l
  pub properties : Row kind.Property c.properties (drop lay.properties l)
  pub tags_in : lay.tags ≤ length l
  pub tags : Row kind.Text c.tags (drop lay.tags l)

-- no name twice in each of them
abbrev pub apart_in : List ℕ → Counts → Layout → Bool
apart_in l c lay =
    distinct (names kind.Text c.links (drop lay.links l))
    && (distinct (names kind.Property c.properties (drop lay.properties l))
    && distinct (names kind.Text c.tags (drop lay.tags l)))

-- the parts behind the header: a state was read and nothing is left; or there is none
abbrev pub PartsAre : ℕ → List ℕ → Counts → Option Layout → Type 0
PartsAre n l c (Some lay) = (s : State) × (output_on n (head_of (take header_size l)) (drop header_size l) ≡ got s []) × (lay ≡ layout_of s) × Standing l c lay × (apart_in l c lay ≡ apart s)
PartsAre n l c None = ended (output_on n (head_of (take header_size l)) (drop header_size l)) ≡ None

abbrev pub checked_of : Option State → Option Layout
checked_of None = None
checked_of (Some s) = Some (layout_of s)
