-- The declared types that these definitions speak of, by their plain names.
pub use Rattle.numbers.specs.declared.place.VarNo.{VarNo}
pub use Rattle.numbers.specs.declared.place.WordIndex.{WordIndex}
pub use Rattle.numbers.specs.declared.place.BitAddress.{BitAddress}
pub use Rattle.raster.specs.declared.frame.Bounds.{Bounds}
pub use Rattle.raster.specs.declared.frame.Window.{Window}
pub use Rattle.raster.specs.declared.frame.Frame.{Frame}
pub use Rattle.raster.specs.declared.dots.Dot.{Dot}
pub use Rattle.lines.specs.declared.line.Line.{Line}
pub use Rattle.circles.specs.declared.circle.Circle.{Circle}
pub use Rattle.player.specs.declared.Verdict.{Verdict}
pub use Rattle.player.specs.declared.State.{State}
pub use Rattle.player.specs.declared.State.TheVariants.{Running, Ended, Stopped}
pub use Rattle.rules.specs.declared.environment.Registers.{Registers}
pub use Rattle.rules.specs.declared.environment.Repeat.{Repeat}
pub use Rattle.rules.specs.declared.opcode.Form.{Form}
pub use Rattle.rules.specs.declared.opcode.Operands.{Operands}
