use Rattle.tree_devices.proofs.runs.run_planned.Goals as goal

pub returns : goal.returns
returns g c = record { real = λ four good. (c.run_over-ran.ensures.ran.0, c.failures_are_real.ensures _ _ _ _ _ _ _ c.run_over-ran.ensures.ran.0 four good) }
