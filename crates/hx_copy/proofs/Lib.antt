mod Trails
