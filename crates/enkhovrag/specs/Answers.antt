-- What C hands over, and answers as it takes them: the number and place of a refusal, both 0 where there is none, then the values, which are 0 where there are none.
use Rattle.lattice.specs.Answers.{PointAnswer}
use Rattle.refusals.specs.Answers.{Answer}
use Rattle.std.specs.Prelude.{map, pos}
use Rattle.std.specs.Result.{result_unwrap_or}
use Rattle.integers.specs.Vectors.{zeros}
use Rattle.readings.specs.declared.Reading.{Reading}
use Rattle.readings.specs.Taking.{taken_number, taken_value, Taken}
use Rattle.refusals.specs.declared.settings.Settings.{Settings}
use Rattle.refusals.specs.Verdicts.{number_of, place_of}
use Rattle.reports.specs.Report.{ReportAnswer, no_readings}
use Rattle.stores.specs.Stores.{HourAnswer}
use Rattle.enkhovrag.specs.declared.answers.EkAnswer.{EkAnswer}
use Rattle.enkhovrag.specs.declared.answers.EkHour.{EkHour}
use Rattle.enkhovrag.specs.declared.answers.EkPoint.{EkPoint}
use Rattle.enkhovrag.specs.declared.answers.EkReading.{EkReading}
use Rattle.enkhovrag.specs.declared.answers.EkReportAnswer.{EkReportAnswer}
use Rattle.enkhovrag.specs.declared.answers.EkSettings.{EkSettings}
use Rattle.enkhovrag.specs.declared.answers.EkTaken.{EkTaken}

-- settings
abbrev pub settings : EkSettings → Settings
settings s = record { q = s.q; m = s.m }

-- a taken reading
abbrev pub taken_out : Taken → EkTaken
taken_out t = record { number = taken_number t; value = taken_value t }

-- a doubled point
abbrev pub point_out : PointAnswer → EkPoint
point_out a = record { number = number_of a; place = place_of a; e = result_unwrap_or a (zeros 8) }

-- an answer whose value is one number
abbrev pub answer_out : Answer → EkAnswer
answer_out a = record { number = number_of a; place = place_of a; value = result_unwrap_or a (pos 0) }

-- the best hour
abbrev pub hour_out : HourAnswer → EkHour
hour_out a = let b = result_unwrap_or a (record { hour = 0; score = pos 0 }) in record { number = number_of a; place = place_of a; hour = b.hour; score = b.score }

-- one reading of a report, and a report
abbrev pub reading_out : Reading → EkReading
reading_out r = record { taken = r.taken; decoded = r.decoded; difference = r.difference }

abbrev pub report_out : ReportAnswer → EkReportAnswer
report_out a = record { number = number_of a; place = place_of a; reading = map reading_out (result_unwrap_or a no_readings) }
