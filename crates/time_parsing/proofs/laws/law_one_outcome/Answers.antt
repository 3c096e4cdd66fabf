use Rattle.time_values.specs.Calendar.{greatest_year}
use Rattle.time_record.specs.Resolution.{IsDated, IsTimed, IsOffset, IsPlain, IsUtcMoment, IsMoment, IsTimestamp}
use Rattle.time_record.proofs.ResolutionLemmas.{IsDated-one, IsTimed-one, IsOffset-one, IsPlain-one, IsUtcMoment-one, IsMoment-one, IsTimestamp-one}
use Rattle.time_parsing.proofs.OneOutcome.{one_outcome, one_moment_outcome, one_front}
use Rattle.time_parsing.proofs.laws.law_one_outcome.Goals as goal

pub returns : goal.returns
returns g c =
    let reads = g.T.Parsable.reads c.args.format.now in
    let refuses = g.T.Parsable.refuses c.args.format.now in
    let exact = g.met.T.Parsable.exact c.args.format.now in
    record {
      date = one_outcome reads refuses exact (IsDated greatest_year) IsDated-one;
      time = one_outcome reads refuses exact IsTimed IsTimed-one;
      offset = one_outcome reads refuses exact IsOffset IsOffset-one;
      plain_date_time = one_outcome reads refuses exact (IsPlain greatest_year) IsPlain-one;
      utc_date_time = one_outcome reads refuses exact (IsUtcMoment greatest_year) IsUtcMoment-one;
      offset_date_time = one_moment_outcome (g.T.Parsable.path c.args.format.now) reads refuses exact
          (g.met.T.Parsable.exact_path c.args.format.now) IsMoment-one;
      timestamp = one_outcome reads refuses exact (IsTimestamp greatest_year) IsTimestamp-one;
      front = one_front reads refuses exact (IsMoment greatest_year) IsMoment-one;
    }
