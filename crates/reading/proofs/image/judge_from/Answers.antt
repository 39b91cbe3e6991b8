-- judge_from: the survey is the reading, `legal` and `settled` judge it.
use Rattle.laws.specs.Flag.{flag}
use Rattle.spec.specs.Reading.{judged}
use Rattle.reading.specs.Survey.{known}
use Rattle.reading.proofs.image.judge_from.Goals as goal

pub legal-requires : goal.legal-requires
legal-requires c =
    let e = c.overview-o.ensures in
    (known c.args.image.now c.args.h (e.0, e.1) c.first_cursor-start.ensures, c.requires.2)

pub settled-requires : goal.settled-requires
settled-requires c =
    let e = c.overview-o.ensures in
    known c.args.image.now c.args.h (e.0, e.1) c.first_cursor-start.ensures

pub returns-then-legal : goal.returns-then-legal
unfolding judged
returns-then-legal c =
    let o = c.overview-o.ensures in
    let e = o.0 in
    record {
      result_value = rw (← e.same, judged, ← c.legal.ensures, c.if-legal.true);
      judged_well = ((e.surveyed, c.settled.ensures), rw e.head o.2);
    }

pub returns : goal.returns
unfolding judged
returns c =
    let e = c.overview-o.ensures.0 in
    record { result_value = rw (← e.same, judged, flag c.legal.ensures c.if-legal.false); judged_well = (tt, tt) }
