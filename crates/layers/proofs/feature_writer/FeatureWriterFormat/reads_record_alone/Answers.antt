use Rattle.layers.specs.FeatureWriter.{parts_in}
use Rattle.tl_segments.specs.Shapes.{table_of}
use Rattle.layers.proofs.LayerLemmas.{of_record}
use Rattle.layers.proofs.feature_writer.FeatureWriterFormat.reads_record_alone.Goals as goal

pub returns : goal.returns
returns g c = λ holds. of_record (parts_in c.args.self.now) (table_of c.args.self.now.shapes)
