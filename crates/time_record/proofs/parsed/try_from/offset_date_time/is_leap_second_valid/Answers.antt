use Rattle.time_record.proofs.parsed.try_from.offset_date_time.is_leap_second_valid.Goals as goal

pub returns-else-not-is_leap_second-clause-stands : goal.returns-else-not-is_leap_second-clause-stands
returns-else-not-is_leap_second-clause-stands c = λ is. λ leap. c.is_valid_leap_second_stand_in.ensures.0 is
