-- The code's table of keys, row by row, which is the definitions' one.
-- Assumes nothing.
use Prim.Native.Nat.{ℕ, ◌≤◌, ◌<◌}
use mathlib.Core.Path.{◌≡◌, refl}
use mathlib.Core.List.{List, [], ◌∷◌, map}
use Rattle.std.specs.Prelude.{Some}
use borrow.Author.Tests.{leb-true}
use lib.Dec.{leb}
use lib.ListN.{get_or}
use Rattle.lists.specs.Lists.{nth}
use Rattle.lists.specs.Quoted.{bytes}
use Rattle.lists.proofs.Places.{nth-map, get_or-all}
use Rattle.keys.specs.declared.Key.{Key}
use Rattle.keys.specs.declared.Key.TheVariants.{Action, Devpath, Kernel, Kernels, Subsystem, Subsystems, Driver, Drivers, Attr, Attrs, Env, Symlink, Tag, Owner, Group, Mode, Run, Label, Goto, Options, Program, Result}
use Rattle.keys.specs.declared.Takes.{Takes}
use Rattle.keys.specs.declared.Takes.TheVariants.{Nothing, One, RunType}
use Rattle.keys.specs.declared.Row.{Row}
use Rattle.keys.specs.Table.{allowed_of, row_of}
use Rattle.rules.specs.Key as rules

abbrev row : List ℕ → ℕ → Key → Takes → ℕ → Row
row n l k t o = record { name = n; len = l; key = k; takes = t; operators = record { bits = o } }

unfoldable pub table : List Row
unfolding bytes
table =
    row (bytes "ACTIONACTION") 6 Action Nothing 3
    ∷ row (bytes "DEVPATHDEVPA") 7 Devpath Nothing 3
    ∷ row (bytes "KERNELKERNEL") 6 Kernel Nothing 3
    ∷ row (bytes "KERNELSKERNE") 7 Kernels Nothing 3
    ∷ row (bytes "SUBSYSTEMSUB") 9 Subsystem Nothing 3
    ∷ row (bytes "SUBSYSTEMSSU") 10 Subsystems Nothing 3
    ∷ row (bytes "DRIVERDRIVER") 6 Driver Nothing 3
    ∷ row (bytes "DRIVERSDRIVE") 7 Drivers Nothing 3
    ∷ row (bytes "ATTRATTRATTR") 4 Attr One 3
    ∷ row (bytes "ATTRSATTRSAT") 5 Attrs One 3
    ∷ row (bytes "ENVENVENVENV") 3 Env One 7
    ∷ row (bytes "SYMLINKSYMLI") 7 Symlink Nothing 63
    ∷ row (bytes "TAGTAGTAGTAG") 3 Tag Nothing 63
    ∷ row (bytes "OWNEROWNEROW") 5 Owner Nothing 36
    ∷ row (bytes "GROUPGROUPGR") 5 Group Nothing 36
    ∷ row (bytes "MODEMODEMODE") 4 Mode Nothing 36
    ∷ row (bytes "RUNRUNRUNRUN") 3 Run RunType 44
    ∷ row (bytes "LABELLABELLA") 5 Label Nothing 4
    ∷ row (bytes "GOTOGOTOGOTO") 4 Goto Nothing 4
    ∷ row (bytes "OPTIONSOPTIO") 7 Options Nothing 12
    ∷ row (bytes "PROGRAMPROGR") 7 Program Nothing 47
    ∷ row (bytes "RESULTRESULT") 6 Result Nothing 3
    ∷ []

same-table : map row_of table ≡ rules.rows
unfolding bytes rules.rows allowed_of row_of table
same-table = refl

module _ (k : ℕ) (d : Row) (h : k < 22) where
  pub row_is : nth k rules.rows ≡ Some (row_of (get_or table k d))
  unfolding table
  row_is = rw (← same-table) (nth-map row_of table k d h)

  pub name_short : (get_or table k d).len ≤ 10
  unfolding table
  name_short = leb-true (get_or table k d).len 10 (get_or-all (λ (r : Row). leb r.len 10) table k d refl h)
