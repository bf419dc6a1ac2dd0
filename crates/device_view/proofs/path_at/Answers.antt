use Rattle.device_view.proofs.path_at.Goals as goal

pub returns : goal.returns
returns c m l = c.path.ensures m (rw (c.new.ensures.0, c.new.ensures.1) l)
