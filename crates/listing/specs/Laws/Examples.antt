-- The listing of 01 and its like, computed.
use Rattle.std.specs.Prelude.{◌≡◌, refl}
use Rattle.lattice.specs.Computed.{lesser, pick, grow, both, nearest_d, nearest_half, nearest_point}
use Rattle.layers.specs.Layers.{layer_digits, digit_point, layer_point}
use Rattle.readings.specs.Taking.{measure_units}
use Rattle.refusals.specs.Settings.{good_settings}
use Rattle.refusals.specs.Steps.{good_steps}
use Rattle.encoding.specs.Encode.{encode_asked, check_encode}
use Rattle.records.specs.Frames.{whole_blocks}
use Rattle.texts.specs.Text.{bytes, is_number, number_in, is_asked, well_formed}
use Rattle.listing.specs.Listing.{decimal, block_listing, check_shown, block_shown, shown}

-- the listing that is compared exactly
pub listing-shown : shown (bytes "3 1\n1\n0 1 0 0 0 0 0 0\n") ≡ bytes "step 0 1\nlayer 0 0 1 0 0 0 0 0 0\npoint -2 2 0 0 0 0 0 0\n"
unfolding shown well_formed is_asked is_number number_in block_shown check_shown check_encode encode_asked good_settings good_steps whole_blocks measure_units block_listing decimal layer_digits digit_point layer_point nearest_point nearest_half nearest_d both grow lesser pick
listing-shown = refl

-- a reading past 2^24 is refused by its index, before the block that has no step
pub refusal-shown : shown (bytes "3 1\n1\n0 0 0 0 0 0 9000000 -16777217\n") ≡ bytes "refused 5 7\n"
unfolding shown well_formed is_asked is_number number_in block_shown check_shown check_encode encode_asked good_settings good_steps whole_blocks measure_units decimal
refusal-shown = refl

-- an unknown word is refused before the settings, which are not allowed either
pub malformed-shown : shown (bytes "99 1\n1\n0 0 0 null 0 0 0 0\n") ≡ bytes "refused 10 0\n"
unfolding shown well_formed is_asked is_number number_in check_shown decimal
malformed-shown = refl
