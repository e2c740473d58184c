-- `pen_name`: each arm's words are its variant's name.
use Rattle.names.specs.Names.{pen_name}
use Rattle.names.proofs.Naming.{named}
use Rattle.names.proofs.pen_name.Goals as goal

pub returns-in-Clipmode : goal.returns-in-Clipmode
returns-in-Clipmode c = named pen_name c.in-Clipmode.is c.padded.ensures

pub returns-in-Clipmodev : goal.returns-in-Clipmodev
returns-in-Clipmodev c = named pen_name c.in-Clipmodev.is c.padded-in-Clipmodev.ensures

pub returns-in-Clipwin : goal.returns-in-Clipwin
returns-in-Clipwin c = named pen_name c.in-Clipwin.is c.padded-in-Clipwin.ensures

pub returns-in-Clipwinv : goal.returns-in-Clipwinv
returns-in-Clipwinv c = named pen_name c.in-Clipwinv.is c.padded-in-Clipwinv.ensures

pub returns-in-Colorf : goal.returns-in-Colorf
returns-in-Colorf c = named pen_name c.in-Colorf.is c.padded-in-Colorf.ensures

pub returns-in-Colorfv : goal.returns-in-Colorfv
returns-in-Colorfv c = named pen_name c.in-Colorfv.is c.padded-in-Colorfv.ensures

pub returns-in-Linepatn : goal.returns-in-Linepatn
returns-in-Linepatn c = named pen_name c.in-Linepatn.is c.padded-in-Linepatn.ensures

pub returns-in-Linepatnv : goal.returns-in-Linepatnv
returns-in-Linepatnv c = named pen_name c.in-Linepatnv.is c.padded-in-Linepatnv.ensures

pub returns-in-Moveto : goal.returns-in-Moveto
returns-in-Moveto c = named pen_name c.in-Moveto.is c.padded-in-Moveto.ensures

pub returns-in-Movetov : goal.returns-in-Movetov
returns-in-Movetov c = named pen_name c.in-Movetov.is c.padded-in-Movetov.ensures

pub returns-in-Movetor : goal.returns-in-Movetor
returns-in-Movetor c = named pen_name c.in-Movetor.is c.padded-in-Movetor.ensures

pub returns-in-Movetorv : goal.returns-in-Movetorv
returns-in-Movetorv c = named pen_name c.in-Movetorv.is c.padded-in-Movetorv.ensures

pub returns-in-Xyorg : goal.returns-in-Xyorg
returns-in-Xyorg c = named pen_name c.in-Xyorg.is c.padded-in-Xyorg.ensures

pub returns-in-Xyorgv : goal.returns-in-Xyorgv
returns-in-Xyorgv c = named pen_name c.in-Xyorgv.is c.padded-in-Xyorgv.ensures
