-- `content::ok_output` meets its contract.
use borrow.Author.Tests.{le-leb, lt-leb}
use lib.ListN.{length}
use Rattle.content.proofs.ok_output.Goals as goal

pub returns-then-x-le512 : goal.returns-then-x-le512
returns-then-x-le512 c = rw (le-leb (length c.args.x.now) 512 c.if-x-le512.true) c.clean.ensures

pub returns-else-x-le512 : goal.returns-else-x-le512
returns-else-x-le512 c = rw (lt-leb (length c.args.x.now) 512 c.if-x-le512.false)
