-- The names of months and weekdays.
use Rattle.std.specs.Prelude.{ℕ, List, codes, zero, suc, nat_le, if◌then◌else◌, Option, Some, None, false}
use Rattle.time_values.specs.declared.month.Month.{Month}
use Rattle.time_values.specs.declared.month.Month.TheVariants.{January, February, March, April, May, June, July, August, September, October, November, December}
use Rattle.time_values.specs.declared.weekday.Weekday.{Weekday}
use Rattle.time_values.specs.declared.weekday.Weekday.TheVariants.{Monday, Tuesday, Wednesday, Thursday, Friday, Saturday, Sunday}
use Rattle.time_values.specs.Refusal.{Refusal, range}

-- the English name of a month
abbrev pub month_name : Month → List ℕ
month_name January = codes "January"
month_name February = codes "February"
month_name March = codes "March"
month_name April = codes "April"
month_name May = codes "May"
month_name June = codes "June"
month_name July = codes "July"
month_name August = codes "August"
month_name September = codes "September"
month_name October = codes "October"
month_name November = codes "November"
month_name December = codes "December"

-- the English name of a weekday
abbrev pub weekday_name : Weekday → List ℕ
weekday_name Monday = codes "Monday"
weekday_name Tuesday = codes "Tuesday"
weekday_name Wednesday = codes "Wednesday"
weekday_name Thursday = codes "Thursday"
weekday_name Friday = codes "Friday"
weekday_name Saturday = codes "Saturday"
weekday_name Sunday = codes "Sunday"

-- ---- The numbers of the months

-- the number of a month, from 1 for January
abbrev pub month_number : Month → ℕ
month_number January = 1
month_number February = 2
month_number March = 3
month_number April = 4
month_number May = 5
month_number June = 6
month_number July = 7
month_number August = 8
month_number September = 9
month_number October = 10
month_number November = 11
month_number December = 12

-- the month of a number, 1 to 12; January for 0, and December above 12
abbrev pub month_at : ℕ → Month
month_at zero = January
month_at (suc zero) = January
month_at (suc (suc zero)) = February
month_at (suc (suc (suc zero))) = March
month_at (suc (suc (suc (suc zero)))) = April
month_at (suc (suc (suc (suc (suc zero))))) = May
month_at (suc (suc (suc (suc (suc (suc zero)))))) = June
month_at (suc (suc (suc (suc (suc (suc (suc zero))))))) = July
month_at (suc (suc (suc (suc (suc (suc (suc (suc zero)))))))) = August
month_at (suc (suc (suc (suc (suc (suc (suc (suc (suc zero))))))))) = September
month_at (suc (suc (suc (suc (suc (suc (suc (suc (suc (suc zero)))))))))) = October
month_at (suc (suc (suc (suc (suc (suc (suc (suc (suc (suc (suc zero))))))))))) = November
month_at _ = December

-- the error `month` of a number above 12, and else none
abbrev pub month_refusal : ℕ → Option Refusal
month_refusal n = if nat_le n 12 then None else Some (range (codes "month") false)

-- ---- The numbers of the days of the week

-- the number of days from Monday to a weekday, 0 for Monday to 6 for Sunday
abbrev pub days_from_monday : Weekday → ℕ
days_from_monday Monday = 0
days_from_monday Tuesday = 1
days_from_monday Wednesday = 2
days_from_monday Thursday = 3
days_from_monday Friday = 4
days_from_monday Saturday = 5
days_from_monday Sunday = 6

-- the weekday that many days after Monday, for 0 to 6; Sunday for a greater number
abbrev pub weekday_at : ℕ → Weekday
weekday_at zero = Monday
weekday_at (suc zero) = Tuesday
weekday_at (suc (suc zero)) = Wednesday
weekday_at (suc (suc (suc zero))) = Thursday
weekday_at (suc (suc (suc (suc zero)))) = Friday
weekday_at (suc (suc (suc (suc (suc zero))))) = Saturday
weekday_at _ = Sunday
