-- What the attributes of this crate name, passed on from one place. Declares nothing.
unfoldable pub use Rattle.std.specs.Fmt.{digits}
