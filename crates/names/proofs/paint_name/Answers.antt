-- `paint_name`: each arm's words are its variant's name.
use Rattle.names.specs.Names.{paint_name}
use Rattle.names.proofs.Naming.{named}
use Rattle.names.proofs.paint_name.Goals as goal

pub returns-in-Cir : goal.returns-in-Cir
returns-in-Cir c = named paint_name c.in-Cir.is c.padded.ensures

pub returns-in-Cirv : goal.returns-in-Cirv
returns-in-Cirv c = named paint_name c.in-Cirv.is c.padded-in-Cirv.ensures

pub returns-in-Cirs : goal.returns-in-Cirs
returns-in-Cirs c = named paint_name c.in-Cirs.is c.padded-in-Cirs.ensures

pub returns-in-Cirsv : goal.returns-in-Cirsv
returns-in-Cirsv c = named paint_name c.in-Cirsv.is c.padded-in-Cirsv.ensures

pub returns-in-Line : goal.returns-in-Line
returns-in-Line c = named paint_name c.in-Line.is c.padded-in-Line.ensures

pub returns-in-Linev : goal.returns-in-Linev
returns-in-Linev c = named paint_name c.in-Linev.is c.padded-in-Linev.ensures

pub returns-in-Lineto : goal.returns-in-Lineto
returns-in-Lineto c = named paint_name c.in-Lineto.is c.padded-in-Lineto.ensures

pub returns-in-Linetov : goal.returns-in-Linetov
returns-in-Linetov c = named paint_name c.in-Linetov.is c.padded-in-Linetov.ensures

pub returns-in-Linetor : goal.returns-in-Linetor
returns-in-Linetor c = named paint_name c.in-Linetor.is c.padded-in-Linetor.ensures

pub returns-in-Linetorv : goal.returns-in-Linetorv
returns-in-Linetorv c = named paint_name c.in-Linetorv.is c.padded-in-Linetorv.ensures

pub returns-in-Pixel : goal.returns-in-Pixel
returns-in-Pixel c = named paint_name c.in-Pixel.is c.padded-in-Pixel.ensures

pub returns-in-Pixelv : goal.returns-in-Pixelv
returns-in-Pixelv c = named paint_name c.in-Pixelv.is c.padded-in-Pixelv.ensures

pub returns-in-Pixelc : goal.returns-in-Pixelc
returns-in-Pixelc c = named paint_name c.in-Pixelc.is c.padded-in-Pixelc.ensures

pub returns-in-Pixelcv : goal.returns-in-Pixelcv
returns-in-Pixelcv c = named paint_name c.in-Pixelcv.is c.padded-in-Pixelcv.ensures

pub returns-in-Clrwin : goal.returns-in-Clrwin
returns-in-Clrwin c = named paint_name c.in-Clrwin.is c.padded-in-Clrwin.ensures

pub returns-in-Clrwinv : goal.returns-in-Clrwinv
returns-in-Clrwinv c = named paint_name c.in-Clrwinv.is c.padded-in-Clrwinv.ensures
