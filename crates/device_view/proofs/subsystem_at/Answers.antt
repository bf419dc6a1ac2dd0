use Rattle.device_view.proofs.subsystem_at.Goals as goal

pub returns : goal.returns
returns c m l = c.subsystem.ensures m (rw (c.new.ensures.0, c.new.ensures.1) l)
