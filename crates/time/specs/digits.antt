pub use Rattle.time_digits.specs.Digits
