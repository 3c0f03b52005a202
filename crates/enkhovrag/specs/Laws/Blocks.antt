-- The listed blocks hold, all by one computation.
use Rattle.std.specs.Prelude.{◌≡◌, refl, map}
use Rattle.refusals.specs.Settings.{good_settings}
use Rattle.refusals.specs.Steps.{good_steps}
use Rattle.readings.specs.Taking.{measure_units}
use Rattle.lattice.specs.Answers.{check_nearest, nearest}
use Rattle.lattice.specs.Computed.{lesser, pick, grow, both, nearest_d, nearest_half, nearest_point}
use Rattle.coding.specs.Answers.{check_digits, decoded}
use Rattle.layers.specs.Layers.{layer_digits, digit_point, layer_point}
use Rattle.records.specs.Frames.{whole_blocks, good_record}
use Rattle.encoding.specs.Encode.{encode_asked, check_encode, encoded, encoded_room}
use Rattle.scores.specs.Eight.Scores.{inner, block_pair, pair_total, check_code, check_pair, pair_score}
use Rattle.enkhovrag.specs.Blocks.{answered, expected, rows}

pub blocks-hold : map answered rows ≡ map expected rows
unfolding nearest check_nearest decoded check_digits Rattle.scores.specs.Scores.pair_score Rattle.scores.specs.Scores.check_pair Rattle.scores.specs.Scores.check_code Rattle.scores.specs.Scores.pair_total Rattle.scores.specs.Scores.block_pair inner encoded encoded_room check_encode encode_asked good_settings good_steps whole_blocks good_record measure_units layer_digits layer_point digit_point nearest_point nearest_half nearest_d both grow lesser pick
blocks-hold = refl
