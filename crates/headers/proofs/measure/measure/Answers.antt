use mathlib.Core.Path.{◌∙◌}
use Rattle.headers.specs.Walk.{odd_head, far_head, near_head}
use Rattle.headers.proofs.measure.measure.Goals as goal

pub returns-then-h-ne0 : goal.returns-then-h-ne0
returns-then-h-ne0 c = odd_head _ _ _ c.if-h-ne0.true

pub returns-then-image-h : goal.returns-then-image-h
returns-then-image-h c = far_head _ _ _ c.if-h-ne0.false c.if-image-h.true

pub returns : goal.returns
returns c = c.from_head.ensures ∙ near_head _ _ _ c.if-h-ne0.false c.if-image-h.false
