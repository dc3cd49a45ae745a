-- What stands for an item that is not there: an item of a list is read with one of these in hand.
use Rattle.rb_core.specs.declared.layout_decl.Step.{Step}
use Rattle.rb_image.specs.declared.site.Site.{Site}

abbrev pub no_step : Step
no_step = record { align = 0; byte = 0; width = 0; o = 0; l = 0 }

abbrev pub no_site : Site
no_site = record { base = 0; place = 0; width = 0; o = 0; l = 0 }
