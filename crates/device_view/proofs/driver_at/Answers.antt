use Rattle.device_view.proofs.driver_at.Goals as goal

pub returns : goal.returns
returns c m l = c.driver.ensures m (rw (c.new.ensures.0, c.new.ensures.1) l)
