pub use Rattle.crash_plans.specs.Plans
-- The definitions that the contracts cite.
pub mod variants
pub mod hunts
pub mod minimization
pub mod words
pub mod space
