use Rattle.std.proofs.Common.{ap, inl, inr}
use Rattle.http_message.specs.declared.reply.MediaType.{MediaType}
use Rattle.layers.specs.LayerParts.{parts_of}
use Rattle.wire.specs.Answer.{body_reply, refused}
use Rattle.wire.specs.declared.query.Parameters.TheVariants.{OfSelect}
use Rattle.wire.proofs.FilterLemmas.{of_query}
use Rattle.wire.proofs.filter.select.Goals as goal

pub returns-in-Err : goal.returns-in-Err
returns-in-Err g c = inr (of_query OfSelect _ _ _ (rw c.as_bytes.ensures.value at c.in-Err.ensures.err))

pub returns-in-Ok-selected_layer : goal.returns-in-Ok-selected_layer
returns-in-Ok-selected_layer g c = inl (record {
  valid = rw c.as_bytes.ensures.value at c.in-Ok.ensures.valid;
  options = c.in-Ok.read.0;
  are_options = rw c.as_bytes.ensures.value at c.in-Ok.ensures.options;
  layer = parts_of c.in-Ok.read.1;
  is_requested = rw c.as_bytes.ensures.value at c.in-Ok.ensures.layer;
  text = c.in-Ok-selected_layer.body.items;
  is_selected = c.in-Ok-selected_layer.ensures.ok;
  is_reply = ap (λ (media : MediaType). body_reply media c.in-Ok-selected_layer.body.items) c.media_of.ensures;
})

pub returns-in-Err-selected_layer : goal.returns-in-Err-selected_layer
returns-in-Err-selected_layer g c =
    let valid = rw c.as_bytes.ensures.value at c.in-Ok.ensures.valid in
    let options = rw c.as_bytes.ensures.value at c.in-Ok.ensures.options in
    inr (refused valid c.in-Ok.read.0 options c.in-Err-selected_layer.ensures.err)
