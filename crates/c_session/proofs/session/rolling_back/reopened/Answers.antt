-- What was not committed is given up, and the device is opened.
use Rattle.c_session.proofs.RollingBack.{brings_fewer, faults_by, opened_back, opened_left}
use Rattle.c_session.proofs.session.rolling_back.reopened.Goals as goal

pub returns-in-Err-clause-left : goal.returns-in-Err-clause-left
returns-in-Err-clause-left g c =
    let d = g.D.BlockDevice in
    record {
      honest = λ h cache. c.give_up.ensures.honest.0 h;
      table = λ h cache tables brings.
          brings_fewer d.recovery c.args.device c.give_up.new.self tables (c.in-Err.ensures.no_more h) brings;
      why = λ h cache each tables brings. c.refusal_by.ensures.why;
      faults = faults_by c.in-Err.fault c.refusal_by.result _ _ c.refusal_by.ensures.failed
          c.refusal_by.ensures.memory c.in-Err.ensures.faults;
    }

pub returns-clause-back : goal.returns-clause-back
returns-clause-back g c =
    opened_back g.D.BlockDevice c.args.device c.give_up.new.self c.args.opening c.give_up.ensures.honest.0
    c.in_default.ensures.begins (c.in_default.ensures.faults.other (λ is. absurd (cc))) c.open_store.result
    c.open_store.ensures.image c.open_store.ensures.now_settled c.open_store.ensures.newest
    c.open_store.ensures.no_fault

pub returns-clause-left : goal.returns-clause-left
returns-clause-left g c =
    opened_left g.D.BlockDevice c.args.device c.give_up.new.self c.args.opening c.give_up.ensures.honest.0
    c.in_default.ensures.begins (c.in_default.ensures.faults.other (λ is. absurd (cc))) c.open_store.result
    c.in_default.ensures.durable c.in_default.ensures.one c.open_store.ensures.refused
    c.open_store.ensures.refused_stops c.open_store.ensures.refused_honest c.open_store.ensures.cause
