use Rattle.device_view.proofs.parent_at.Goals as goal

pub returns : goal.returns
returns c = rw (c.new.ensures.0, c.new.ensures.1) at c.parent.ensures.1
