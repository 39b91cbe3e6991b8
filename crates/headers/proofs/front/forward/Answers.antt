use Rattle.chain.specs.CursorLaws.{sound_turn}
use Rattle.headers.specs.Fore.{went_on, went_here}
use Rattle.headers.proofs.front.forward.Goals as goal

pub look-requires : goal.look-requires
look-requires c = rw c.turn-t.ensures (sound_turn _ _ c.requires)

pub settle-requires : goal.settle-requires
settle-requires c =
    (rw c.turn-t.ensures (sound_turn _ _ c.requires), c.look.ensures.1)

pub returns-then-goes_on : goal.returns-then-goes_on
returns-then-goes_on c =
    went_on _ _ c.look-x.result c.goes_on.result c.requires c.look-x.ensures.0 c.goes_on.ensures c.turn-t.result
    c.look.result c.settle.result c.if-goes_on.true c.turn-t.ensures
    c.look.ensures.0 c.settle.ensures c.look.ensures.1

pub returns : goal.returns
returns c =
    went_here _ _ c.look-x.result c.goes_on.result c.requires c.look-x.ensures.0 c.goes_on.ensures c.settle-2.result
    c.if-goes_on.false c.settle-2.ensures c.look-x.ensures.1
