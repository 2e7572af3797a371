-- The refusals by number, SPEC 2.1, passed on to the crates above.
pub use Rattle.arithmetic.specs.Refusal.{pitch_out_of_range, not_measurable, detuning_out_of_range, note_out_of_range, key_twice, channel_over15, channel_twice, data_byte_over127, bend_out_of_range, buffer_too_short, key_held, lists_unequal, line_malformed}
